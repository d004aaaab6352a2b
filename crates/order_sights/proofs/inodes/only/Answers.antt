use Rattle.order_sights.proofs.Singles.{single}
use Rattle.order_sights.proofs.inodes.only.Goals as goal

pub returns : goal.returns
returns c = single c.args.inodes.now c.args.i
