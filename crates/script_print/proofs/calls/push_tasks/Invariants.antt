-- the lines of the tasks so far, whose rules are read again
use Rattle.std.proofs.Common.{◌≡◌, ◌++◌, map, take}
use Rattle.std.specs.List.{AllByRecursion, flat_map}
use Rattle.call_lines.specs.Lines.{lines_text}
use Rattle.script_spelling.specs.Rules.{AreReadRules}
use Rattle.script_spelling.specs.Spelling.{task_lines}
use Rattle.script_print.proofs.calls.push_tasks.Given as goal

abbrev pub invariant-loop-task : goal.invariant-loop-task
invariant-loop-task l = record {
  text : l.out.items ≡ l.fn.out.items
      ++ flat_map (λ t. lines_text (task_lines (map (λ p. p.now) l.paths) t))
      (take l.task-index l.tasks);
  read : AllByRecursion AreReadRules (take l.task-index l.tasks);
}
