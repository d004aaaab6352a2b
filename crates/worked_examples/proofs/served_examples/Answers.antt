use Rattle.worked_examples.proofs.Served.{examples}
use Rattle.worked_examples.proofs.served_examples.Goals as goal

pub returns : goal.returns
returns c = examples
