use Rattle.run_laws.proofs.shown.Denied.{denied_there}
use Rattle.run_laws.proofs.shown_is_denied.Goals as goal

pub returns : goal.returns
returns c = denied_there
