use Rattle.std.proofs.Common.{◌≡◌, drop}
use Rattle.view_sentences.specs.Alike.{parted, parted_from}
use Rattle.view_sentences.proofs.alike.parted.Given as goal

-- the journals part at none of the places so far
abbrev pub invariant-loop-place : goal.invariant-loop-place
invariant-loop-place l =
    parted_from l.text l.mine l.other l.place (drop l.place l.mine) ≡ parted l.text l.mine l.other
