use Rattle.worked_examples.proofs.Merged.{examples}
use Rattle.worked_examples.proofs.merged_examples.Goals as goal

pub returns : goal.returns
returns c = examples
