use Rattle.std.proofs.Common.{◌≡◌, drop}
use Rattle.view_plan.specs.Slots.{after_events}
use Rattle.view_plan.proofs.slots.fill_events.Given as goal

-- the remaining events make of the table what all do
abbrev pub invariant-loop-place : goal.invariant-loop-place
invariant-loop-place l =
    after_events l.asked l.table l.inode l.place (drop l.place l.journal)
    ≡ after_events l.asked l.fn.table l.inode 0 l.journal
