use Rattle.kernel_read.proofs.Listed.{measured_listed}
use Rattle.kernel_read.proofs.law.measured_reads_are_listed.Goals as goal

pub returns : goal.returns
returns c = measured_listed
