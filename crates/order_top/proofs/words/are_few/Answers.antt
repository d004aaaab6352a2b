use Rattle.order_top.proofs.Wording.{few_is}
use Rattle.order_top.proofs.words.are_few.Goals as goal

pub returns : goal.returns
returns c = few_is c.args.word.now c.dots.result c.dots.ensures
