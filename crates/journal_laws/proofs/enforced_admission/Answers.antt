use Rattle.journal_laws.proofs.Admitting.{admits_lem}
use Rattle.journal_laws.proofs.enforced_admission.Goals as goal

pub returns : goal.returns
returns c = λ i p who d grant file h e m a. admits_lem i p who d grant file h.1.0 h.1.1 e m a
