use Rattle.run_laws.proofs.shown.Sound.{labelled_there}
use Rattle.run_laws.proofs.shown_is_labelled.Goals as goal

pub returns : goal.returns
returns c = labelled_there
