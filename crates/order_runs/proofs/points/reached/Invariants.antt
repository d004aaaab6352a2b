-- the point of the turns so far
use Rattle.std.proofs.Common.{take}
use Rattle.order_runs.specs.Points.{IsPointOf}
use Rattle.order_runs.proofs.points.reached.Given as goal

abbrev pub invariant-loop-task : goal.invariant-loop-task
invariant-loop-task l = IsPointOf l.play (take l.task-index l.turns) l.point
