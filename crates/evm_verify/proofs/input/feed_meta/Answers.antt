use Rattle.std.proofs.Common.{List, ℕ, [], ◌∷◌, subst}
use Rattle.hmac_core.specs.Hmac.{Holds}
use Rattle.evm_verify.proofs.Messages.{six_fed}
use Rattle.evm_verify.proofs.input.feed_meta.Goals as goal

pub returns : goal.returns
returns c = λ key m held.
    let P : List ℕ → Type 0 = λ t. Holds c.feed-6.new.self key t in
    let fed = subst P
    (six_fed m c.to_le_bytes.result c.to_le_bytes-2.result c.to_le_bytes-3.result
    c.to_le_bytes-4.result c.to_le_bytes-5.result (0 ∷ 0 ∷ []))
    (c.feed-6.ensures key _
    (c.feed-5.ensures key _
    (c.feed-4.ensures key _
    (c.feed-3.ensures key _ (c.feed-2.ensures key _ (c.feed.ensures key m held)))))) in
    rw (
      c.to_le_bytes.ensures,
      c.to_le_bytes-2.ensures,
      c.to_le_bytes-3.ensures,
      c.to_le_bytes-4.ensures,
      c.to_le_bytes-5.ensures,
    ) at fed
