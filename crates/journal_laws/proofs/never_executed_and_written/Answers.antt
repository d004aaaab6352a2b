use Rattle.journal_laws.proofs.Executed.{never_both_lem}
use Rattle.journal_laws.proofs.never_executed_and_written.Goals as goal

pub returns : goal.returns
returns c = never_both_lem
