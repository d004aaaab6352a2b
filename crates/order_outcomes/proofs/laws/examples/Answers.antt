use Rattle.order_outcomes.proofs.Examples.{examples}
use Rattle.order_outcomes.proofs.laws.examples.Goals as goal

pub returns : goal.returns
returns c = examples
