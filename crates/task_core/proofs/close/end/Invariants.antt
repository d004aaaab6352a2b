use Rattle.task_core.proofs.close.end.Given as goal

abbrev pub ghost-close_lists : goal.ghost-close_lists
ghost-close_lists g a = g.consts
