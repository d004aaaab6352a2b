use Rattle.worked_examples.proofs.Ended.{examples}
use Rattle.worked_examples.proofs.ended_examples.Goals as goal

pub returns : goal.returns
returns c = examples
