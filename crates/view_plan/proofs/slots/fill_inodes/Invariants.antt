use Rattle.std.proofs.Common.{◌≡◌, drop}
use Rattle.view_plan.specs.Slots.{after_inodes}
use Rattle.view_plan.proofs.slots.fill_inodes.Given as goal

-- the remaining inodes make of the table what all do
abbrev pub invariant-loop-number : goal.invariant-loop-number
invariant-loop-number l =
    after_inodes l.asked l.table l.number (drop l.number l.inodes)
    ≡ after_inodes l.asked l.fn.table 0 l.inodes
