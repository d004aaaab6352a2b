use Rattle.std.proofs.Common.{◌≡◌, ◌++◌, drop}
use Rattle.view_sentences.specs.Alike.{differing, differing_from}
use Rattle.view_sentences.proofs.alike.differing.Given as goal

-- the places so far, and those of the other events
abbrev pub invariant-loop-place : goal.invariant-loop-place
invariant-loop-place l =
    l.places.items
    ++ differing_from l.text l.mine l.other l.windows l.place (drop l.place l.mine)
    ≡ differing l.text l.mine l.other l.windows
