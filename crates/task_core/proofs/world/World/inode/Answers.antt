-- The inode of a number is that of its constants.
use Rattle.task_core.proofs.Visible.{inode_there, no_inode}
use Rattle.task_core.proofs.world.World.inode.Goals as goal
use Rattle.world_model.specs.contracts.world_inode.WorldInode.{the_view}

pub returns-in-Some : goal.returns-in-Some
returns-in-Some c =
    inode_there c.self.inside c.args.self.now c.args.i c.self.invariant c.self.view_is
    c.deref.result.now (the_view c.world_inode.inside) c.in-Some.world_inode.now
    c.deref.ensures.value
    c.in-Some.ensures.lookup.3.0 c.in-Some.ensures.lookup.1 c.world_inode.view_is

pub returns-in-None : goal.returns-in-None
returns-in-None c =
    no_inode c.self.inside c.args.self.now c.args.i c.self.invariant c.self.view_is
    c.deref.result.now c.deref.ensures.value c.in-None.ensures.lookup.3
