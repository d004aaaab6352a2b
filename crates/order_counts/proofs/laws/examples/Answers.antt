use Rattle.order_counts.proofs.Examples.{examples}
use Rattle.order_counts.proofs.laws.examples.Goals as goal

pub returns : goal.returns
returns c = examples
