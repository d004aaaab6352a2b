use Rattle.std.proofs.Common.{map, sym}
use Rattle.std.proofs.lemmas.List.{append-nil}
use Rattle.std.proofs.lemmas.Result.{err_from_is_err_and}
use Rattle.call_lines.specs.Lines.{lines_text}
use Rattle.script_spelling.specs.Rules.{AreReadRules}
use Rattle.script_spelling.specs.Spelling.{task_lines}
use Rattle.script_spelling.proofs.Pieces.{all_done, all_more, text_all, text_more}
use Rattle.script_print.proofs.calls.push_tasks.Goals as goal

pub loop-task-init : goal.loop-task-init
loop-task-init c = record { text = sym (append-nil c.args.out.now.items); read = tt }

pub loop-task-preserved : goal.loop-task-preserved
loop-task-preserved c = record {
  text = text_more (λ t. lines_text (task_lines (map (λ p. p.now) c.args.paths.now) t))
      c.args.tasks.now c.loop-task.task-index c.task-item.result c.args.out.now.items
      c.loop-task.out.items c.push_task.new.out.items c.loop-task-test.true c.task-item.is
      c.loop-task.invariant.text c.in_ok-push_task.ensures.text;
  read = all_more AreReadRules c.args.tasks.now c.loop-task.task-index c.task-item.result
      c.loop-task-test.true c.task-item.is c.loop-task.invariant.read
      c.in_ok-push_task.ensures.rules;
}

-- without an answer nothing is said of the rules
pub returns-in_err-push_task-clause-text : goal.returns-in_err-push_task-clause-text
returns-in_err-push_task-clause-text c =
    let p = err_from_is_err_and c.from_residual.result c.from_residual.ensures.1 in
    rw (p.1) tt

pub returns-in_err-push_task-clause-rules : goal.returns-in_err-push_task-clause-rules
returns-in_err-push_task-clause-rules c =
    let p = err_from_is_err_and c.from_residual.result c.from_residual.ensures.1 in
    rw (p.1) tt

pub returns-clause-text : goal.returns-clause-text
returns-clause-text c =
    text_all (λ t. lines_text (task_lines (map (λ p. p.now) c.args.paths.now) t)) c.args.tasks.now
    c.loop-task.task-index c.args.out.now.items c.loop-task.out.items c.loop-task-test.false
    c.loop-task.invariant.text

pub returns-clause-rules : goal.returns-clause-rules
returns-clause-rules c =
    all_done AreReadRules c.args.tasks.now c.loop-task.task-index c.loop-task-test.false
    c.loop-task.invariant.read
