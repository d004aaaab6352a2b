use Rattle.view_journal.proofs.EntriesLemmas.{entries_are_added_once}
use Rattle.view_journal.proofs.law.entries_are_added_once.Goals as goal

pub returns : goal.returns
returns c = entries_are_added_once
