-- the lines of the tasks that are left are still to come
use Rattle.std.proofs.Common.{◌≡◌, ◌++◌, length}
use Rattle.text_forms.specs.Words.{text_of}
use Rattle.report_text.specs.Report.{all_task_lines}
use Rattle.report_text.proofs.tasks.push_tasks_in_pieces.Given as goal

abbrev pub invariant-loop-task : goal.invariant-loop-task
invariant-loop-task l = record {
  split : l.fn.tasks.items ≡ l.yielded ++ l.task-iterator.rest.items;
  count : l.number ≡ length l.yielded;
  text : (l.out ++ l.piece.items)
      ++ text_of (all_task_lines l.number l.task-iterator.rest.items)
      ≡ l.initial.out ++ text_of (all_task_lines 0 l.fn.tasks.items);
}
