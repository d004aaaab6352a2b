use Rattle.world_close.proofs.lists.close_lists.Given as goal

abbrev pub ghost-take_back : goal.ghost-take_back
ghost-take_back g a = g.consts
