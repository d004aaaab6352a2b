use Rattle.std.proofs.Common.{◌≡◌, ◌++◌, drop, take}
use Rattle.hmac_core.specs.Hmac.{padded}
use Rattle.hmac_core.proofs.hmac.pad_with.Given as goal

-- the bytes before the index are XORed with the pad, and the others are the block's
abbrev pub invariant-loop-byte : goal.invariant-loop-byte
invariant-loop-byte l =
    l.byte-items ≡ padded l.pad (take l.byte-index l.block) ++ drop l.byte-index l.block
