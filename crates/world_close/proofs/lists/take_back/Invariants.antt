use Rattle.world_close.specs.Closed.{journal_name}
use Rattle.world_close.proofs.lists.take_back.Given as goal

abbrev pub ghost-close_world_inodes : goal.ghost-close_world_inodes
ghost-close_world_inodes g a = journal_name g.consts
