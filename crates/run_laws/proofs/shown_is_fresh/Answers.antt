use Rattle.run_laws.proofs.shown.Sound.{fresh_there}
use Rattle.run_laws.proofs.shown_is_fresh.Goals as goal

pub returns : goal.returns
returns c = fresh_there
