use Rattle.run_laws.proofs.kernel_reads.Sound.{reads_soundly}
use Rattle.run_laws.proofs.kernel_reads_soundly.Goals as goal

pub returns : goal.returns
returns c = reads_soundly
