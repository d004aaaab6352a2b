use Rattle.run_laws.proofs.shown.Sound.{rare_there}
use Rattle.run_laws.proofs.shown_is_rarely_hashed.Goals as goal

pub returns : goal.returns
returns c = rare_there
