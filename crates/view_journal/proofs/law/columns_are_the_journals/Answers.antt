use Rattle.view_journal.proofs.ColumnsStand.{columns_are_the_journals}
use Rattle.view_journal.proofs.law.columns_are_the_journals.Goals as goal

pub returns : goal.returns
returns c = columns_are_the_journals
