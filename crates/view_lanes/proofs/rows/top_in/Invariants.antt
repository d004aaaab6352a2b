use Rattle.std.proofs.Common.{◌≡◌, drop}
use Rattle.view_lanes.specs.Lanes.{top_in}
use Rattle.view_lanes.proofs.rows.top_in.Given as goal

-- the lane is among the others
abbrev pub invariant-loop-lane : goal.invariant-loop-lane
invariant-loop-lane l = top_in l.task (drop l.lane-index l.lanes) ≡ top_in l.task l.lanes
