use Rattle.std.proofs.Common.{◌≡◌, drop}
use Rattle.view_sentences.specs.Alike.{letters}
use Rattle.view_sentences.proofs.alike.next_letter.Given as goal

-- the bytes so far are digits
abbrev pub invariant-loop-k : goal.invariant-loop-k
invariant-loop-k l = letters (drop l.k l.bytes) ≡ letters (drop l.fn.from l.bytes)
