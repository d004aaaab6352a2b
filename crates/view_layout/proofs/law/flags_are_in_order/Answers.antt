use Rattle.view_layout.proofs.FlagsLemmas.{flags_are_in_order}
use Rattle.view_layout.proofs.law.flags_are_in_order.Goals as goal

pub returns : goal.returns
returns c = flags_are_in_order
