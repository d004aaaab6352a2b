use Rattle.std.proofs.Common.{◌≡◌, drop}
use Rattle.view_page.specs.Pieces.{word_at}
use Rattle.view_page.proofs.pieces.word_at.Given as goal

-- the word is in the rest of the line
abbrev pub invariant-loop-at : goal.invariant-loop-at
invariant-loop-at l = word_at l.left (drop l.at l.line) ≡ word_at l.spaces l.line
