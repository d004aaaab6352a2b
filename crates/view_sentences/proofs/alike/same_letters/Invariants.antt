use Rattle.std.proofs.Common.{◌≡◌, drop}
use Rattle.view_sentences.specs.Alike.{letters, same_bytes, same_letters}
use Rattle.view_sentences.proofs.alike.same_letters.Given as goal

-- the letters so far are the same, and the others are left
abbrev pub invariant-loop-byte : goal.invariant-loop-byte
invariant-loop-byte l =
    same_bytes (letters (drop l.byte-index l.a)) (letters (drop l.next l.b))
    ≡ same_letters l.a l.b
