use Rattle.report_read.proofs.ReportBack.{report_is_read}
use Rattle.report_read.proofs.law.report_is_read.Goals as goal

pub returns : goal.returns
returns c = report_is_read
