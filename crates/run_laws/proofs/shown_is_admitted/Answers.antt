use Rattle.run_laws.proofs.shown.Sound.{admitted_there}
use Rattle.run_laws.proofs.shown_is_admitted.Goals as goal

pub returns : goal.returns
returns c = admitted_there
