use Rattle.journal_laws.proofs.Counting.{few_takes}
use Rattle.journal_laws.proofs.few_collections.Goals as goal

pub returns : goal.returns
returns c = λ i p h. few_takes i p h.1
