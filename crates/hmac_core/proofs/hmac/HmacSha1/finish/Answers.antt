use Rattle.std.proofs.Common.{◌∙◌, ap, ◌++◌}
use Rattle.sha1.specs.Sha1.{sha1}
use Rattle.hmac_core.specs.Hmac.{Holds, hmac, padded, block_key}
use Rattle.hmac_core.proofs.hmac.HmacSha1.finish.Goals as goal

pub returns : goal.returns
unfolding Holds hmac
returns c = λ key m held.
    c.finalize-2.ensures _ (c.update.ensures _ held.1)
    ∙ ap (λ digest. sha1 (padded 0x5c (block_key key) ++ digest)) (c.finalize.ensures _ held.0)
