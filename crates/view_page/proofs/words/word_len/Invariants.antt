use Rattle.std.proofs.Common.{◌≡◌, ◌+◌, drop}
use Rattle.view_page.specs.Pieces.{word_len}
use Rattle.view_page.proofs.words.word_len.Given as goal

-- the word has these bytes, and those of its rest
abbrev pub invariant-loop-i : goal.invariant-loop-i
invariant-loop-i l = l.i + word_len (drop l.i l.bytes) ≡ word_len l.bytes
