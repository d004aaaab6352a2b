use Rattle.order_outcomes.proofs.alike.Following.{following}
use Rattle.order_outcomes.proofs.alike.Inodes.{inode_laws}
use Rattle.order_outcomes.proofs.laws.alike_follows.Goals as goal

pub returns : goal.returns
returns c = following inode_laws
