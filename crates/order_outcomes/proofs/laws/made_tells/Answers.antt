use Rattle.order_outcomes.proofs.Telling.{tells}
use Rattle.order_outcomes.proofs.laws.made_tells.Goals as goal

pub returns : goal.returns
returns c = tells
