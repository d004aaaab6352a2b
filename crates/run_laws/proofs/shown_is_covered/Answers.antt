use Rattle.run_laws.proofs.shown.Sound.{covered_there}
use Rattle.run_laws.proofs.shown_is_covered.Goals as goal

pub returns : goal.returns
returns c = covered_there
