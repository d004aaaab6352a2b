use Rattle.order_outcomes.proofs.alike.Examples.{examples}
use Rattle.order_outcomes.proofs.laws.alike_examples.Goals as goal

pub returns : goal.returns
returns c = examples
