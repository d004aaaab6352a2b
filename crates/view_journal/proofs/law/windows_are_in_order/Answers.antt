use Rattle.view_journal.proofs.WindowsLemmas.{windows_are_in_order}
use Rattle.view_journal.proofs.law.windows_are_in_order.Goals as goal

pub returns : goal.returns
returns c = windows_are_in_order
