use Rattle.report_laws.proofs.Runs.{report_determines}
use Rattle.report_laws.proofs.report_determines.Goals as goal

pub returns : goal.returns
returns c = report_determines
