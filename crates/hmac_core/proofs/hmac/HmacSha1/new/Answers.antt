use Rattle.std.proofs.lemmas.List.{append-nil}
use Rattle.hmac_core.specs.Hmac.{Holds}
use Rattle.hmac_core.proofs.hmac.HmacSha1.new.Goals as goal

pub returns : goal.returns
unfolding Holds
returns c = (
  rw (
    append-nil,
    ← c.block_of-block.ensures,
    ← c.pad_with.ensures,
  ) (c.update.ensures _ c.new-inner.ensures),
  rw (
    ← c.block_of-block.ensures,
    ← c.pad_with-2.ensures,
  ) (c.update-2.ensures _ c.new-outer.ensures),
)
