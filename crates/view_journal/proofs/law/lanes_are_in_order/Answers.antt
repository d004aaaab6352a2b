use Rattle.view_journal.proofs.BarsLemmas.{lanes_are_in_order}
use Rattle.view_journal.proofs.law.lanes_are_in_order.Goals as goal

pub returns : goal.returns
returns c = lanes_are_in_order
