use Rattle.std.proofs.Common.{◌≡◌, ◌++◌, drop}
use Rattle.view_journal.specs.Windows.{marked_from}
use Rattle.view_journal.proofs.window.of_interest.Given as goal

-- the places of interest so far, and those of the other events
abbrev pub invariant-loop-place : goal.invariant-loop-place
invariant-loop-place l =
    l.places.items ++ marked_from l.place (drop l.place l.journal) ≡ marked_from 0 l.journal
