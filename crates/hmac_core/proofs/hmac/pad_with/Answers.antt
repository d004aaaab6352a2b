use Rattle.std.proofs.Common.{◌<◌, bit_xor, length, get_or, arith}
use Rattle.std.proofs.lemmas.List.{get_or_default}
use Rattle.std.proofs.lemmas.List.Edits.{map_over_more}
use Rattle.hmac_core.proofs.hmac.pad_with.Goals as goal

pub loop-byte-preserved : goal.loop-byte-preserved
loop-byte-preserved c =
    map_over_more (λ b. bit_xor b c.args.pad) c.args.block.now c.loop-byte.byte-items
    c.loop-byte.byte-index
    (get_or c.loop-byte.byte-items c.loop-byte.byte-index 0)
    (omega arith) c.loop-byte.invariant
    (let here : c.loop-byte.byte-index < length c.loop-byte.byte-items = omega arith in
    get_or_default _ _ _ _ here)
