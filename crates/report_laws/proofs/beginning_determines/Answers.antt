use Rattle.report_laws.proofs.Ends.{beginning_determines}
use Rattle.report_laws.proofs.beginning_determines.Goals as goal

pub returns : goal.returns
returns c = beginning_determines
