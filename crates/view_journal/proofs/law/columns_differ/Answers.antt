use Rattle.view_journal.proofs.ColumnsLemmas.{columns_differ}
use Rattle.view_journal.proofs.law.columns_differ.Goals as goal

pub returns : goal.returns
returns c = columns_differ
