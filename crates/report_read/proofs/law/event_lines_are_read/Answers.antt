use Rattle.report_read.proofs.EventsBack.{event_lines_are_read}
use Rattle.report_read.proofs.law.event_lines_are_read.Goals as goal

pub returns : goal.returns
returns c = event_lines_are_read
