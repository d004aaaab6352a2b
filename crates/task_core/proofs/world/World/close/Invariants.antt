use Rattle.task_core.proofs.world.World.close.Given as goal

abbrev pub ghost-end : goal.ghost-end
ghost-end a = a.world.consts
