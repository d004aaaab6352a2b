use Rattle.order_outcomes.proofs.alike.Inodes.{inode_laws}
use Rattle.order_outcomes.proofs.alike.Reached.{reached_sound}
use Rattle.order_outcomes.proofs.laws.reached_are_sound.Goals as goal

pub returns : goal.returns
returns c = reached_sound inode_laws
