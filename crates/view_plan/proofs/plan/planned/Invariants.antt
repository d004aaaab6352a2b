use Rattle.std.proofs.Common.{◌≡◌, ◌++◌, drop}
use Rattle.view_plan.specs.Plan.{planned, shown_from}
use Rattle.view_plan.proofs.plan.planned.Given as goal

-- the windows so far, and those of the other inodes if there is room
abbrev pub invariant-loop-number : goal.invariant-loop-number
invariant-loop-number l =
    l.shown.items ++ shown_from l.room l.inodes (drop l.number-index l.order)
    ≡ planned l.inodes l.order
