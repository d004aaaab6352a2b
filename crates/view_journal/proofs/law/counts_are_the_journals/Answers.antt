use Rattle.view_journal.proofs.CountsLemmas.{counts_are_the_journals}
use Rattle.view_journal.proofs.law.counts_are_the_journals.Goals as goal

pub returns : goal.returns
returns c = counts_are_the_journals
