use Rattle.std.proofs.Common.{◌≡◌, ◌+◌, drop}
use Rattle.view_lanes.specs.Lanes.{first_from}
use Rattle.view_lanes.proofs.actors.first_from.Given as goal

-- the tasks before this one are below
abbrev pub invariant-loop-at : goal.invariant-loop-at
invariant-loop-at l = l.at + first_from l.task (drop l.at l.tasks) ≡ first_from l.task l.tasks
