use Rattle.std.proofs.Common.{refl}
use Rattle.order_outcomes.specs.Outcome.{task_text, tasks_text}
use Rattle.order_outcomes.proofs.Walking.{numbered_end, numbered_more}
use Rattle.order_outcomes.proofs.outcome.push_tasks.Goals as goal

pub loop-number-preserved : goal.loop-number-preserved
loop-number-preserved c =
    let e = c.args.ended.now in
    numbered_more (tasks_text e.list e.inodes) (task_text e.list e.inodes)
    c.args.tasks.now c.loop-number.number _ c.loop-number.out.items c.loop-number.invariant
    c.index-tasks-number.result _ (λ n y ys. refl) c.loop-number-test.true c.index-tasks-number.is
    c.in_ok-push_task.ensures

pub returns : goal.returns
returns c =
    let e = c.args.ended.now in
    numbered_end (tasks_text e.list e.inodes) (task_text e.list e.inodes)
    c.args.tasks.now c.loop-number.number _ c.loop-number.out.items c.loop-number.invariant refl
    c.loop-number-test.false
