use Rattle.worked_examples.proofs.Laws.{examples}
use Rattle.worked_examples.proofs.law_examples.Goals as goal

pub returns : goal.returns
returns c = examples
