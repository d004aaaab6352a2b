use Rattle.view_journal.proofs.RowsLemmas.{bars_dont_overlap}
use Rattle.view_journal.proofs.law.bars_dont_overlap.Goals as goal

pub returns : goal.returns
returns c = bars_dont_overlap
