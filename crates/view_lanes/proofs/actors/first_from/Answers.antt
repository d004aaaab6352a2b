use Rattle.std.proofs.Common.{arith}
use Rattle.view_lanes.proofs.LanesLemmas.{first_after, first_here, first_past}
use Rattle.view_lanes.proofs.actors.first_from.Goals as goal

pub returns-then-other-task-clause-is : goal.returns-then-other-task-clause-is
returns-then-other-task-clause-is c =
    first_here c.args.task c.args.tasks.now c.loop-at.at _ c.loop-at-test.true
    c.if-other-task.true c.loop-at.invariant

pub loop-at-preserved : goal.loop-at-preserved
loop-at-preserved c =
    first_after c.args.task c.args.tasks.now c.loop-at.at _ c.loop-at-test.true
    c.if-other-task.false c.loop-at.invariant

pub returns-clause-is : goal.returns-clause-is
returns-clause-is c = omega (
  arith,
  c.loop-at-test.false,
  c.loop-at.auto.at-end,
  first_past c.args.task c.args.tasks.now c.loop-at.at _ c.loop-at-test.false
      c.loop-at.invariant,
)
