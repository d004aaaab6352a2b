use Rattle.std.proofs.Common.{refl}
use Rattle.report_text.specs.Report.{all_task_lines, task_lines}
use Rattle.report_events.proofs.Joins.{lines_end, lines_on}
use Rattle.report_text.proofs.tasks.push_tasks.Goals as goal

pub loop-number-preserved : goal.loop-number-preserved
loop-number-preserved c =
    lines_on all_task_lines task_lines (λ n x xs. refl) _ _ _
    c.args.tasks.now c.loop-number.number c.index-tasks-number.result
    c.loop-number-test.true c.index-tasks-number.is c.loop-number.invariant
    c.in_ok-push_task.ensures

pub returns : goal.returns
returns c =
    lines_end all_task_lines (λ k. refl) _ _ c.args.tasks.now
    c.loop-number.number c.loop-number-test.false c.loop-number.invariant
