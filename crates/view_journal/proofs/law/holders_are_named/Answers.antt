use Rattle.view_journal.proofs.HoldersLemmas.{holders_are_named}
use Rattle.view_journal.proofs.law.holders_are_named.Goals as goal

pub returns : goal.returns
returns c = holders_are_named
