use Rattle.worked_examples.proofs.Unmodified.{examples}
use Rattle.worked_examples.proofs.unmodified_examples.Goals as goal

pub returns : goal.returns
returns c = examples
