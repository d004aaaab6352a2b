use Rattle.std.proofs.Common.{◌≡◌, take}
use Rattle.std.specs.Prelude.{reverse}
use Rattle.view_sentences.specs.Sentences.{last_write}
use Rattle.view_sentences.proofs.said.last_write.Given as goal

-- the last write so far
abbrev pub invariant-loop-place : goal.invariant-loop-place
invariant-loop-place l = l.last ≡ last_write (reverse (take l.place l.journal))
