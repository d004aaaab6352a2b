use Rattle.worked_examples.proofs.Covered.{examples}
use Rattle.worked_examples.proofs.covered_examples.Goals as goal

pub returns : goal.returns
returns c = examples
