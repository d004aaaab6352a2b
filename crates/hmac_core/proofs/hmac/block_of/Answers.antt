use Rattle.hmac_core.proofs.Blocks.{short_block}
use Rattle.hmac_core.proofs.hmac.block_of.Goals as goal

pub returns-then-key-le-BLOCK_LEN : goal.returns-then-key-le-BLOCK_LEN
returns-then-key-le-BLOCK_LEN c =
    rw c.copy_from_slice.ensures.after (short_block c.args.key.now c.if-key-le-BLOCK_LEN.true)
