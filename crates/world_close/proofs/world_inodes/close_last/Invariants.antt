use Rattle.world_close.proofs.world_inodes.close_last.Given as goal

abbrev pub ghost-take_last : goal.ghost-take_last
ghost-take_last g a = g.names
