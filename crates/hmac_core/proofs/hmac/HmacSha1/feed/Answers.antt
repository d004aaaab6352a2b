use Rattle.std.proofs.lemmas.List.{append_assoc}
use Rattle.hmac_core.specs.Hmac.{Holds}
use Rattle.hmac_core.proofs.hmac.HmacSha1.feed.Goals as goal

pub returns : goal.returns
unfolding Holds
returns c = λ key m held. (rw (← append_assoc) (c.update.ensures _ held.0), held.1)
