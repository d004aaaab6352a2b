-- Without a writer, nothing was written since the collection of the digest in force began.
use Rattle.journal_laws.proofs.Fresh.{fresh_at}
use Rattle.journal_laws.proofs.FreshSteps.{freshness_lem}
use Rattle.journal_laws.proofs.fresh_in_force.Goals as goal

pub returns : goal.returns
returns c = λ i p h none. fresh_at i p (freshness_lem i p h.1) none
