use Rattle.std.proofs.Common.{◌≡◌, ◌++◌, drop}
use Rattle.view_layout.specs.Flags.{raised}
use Rattle.view_layout.proofs.flags.raised.Given as goal

-- the flags so far, and those of the other notes
abbrev pub invariant-loop-at : goal.invariant-loop-at
invariant-loop-at l =
    l.flags.items ++ raised (drop l.at l.noted) (drop l.at l.rows) ≡ raised l.noted l.rows
