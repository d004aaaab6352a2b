use Rattle.script_start.proofs.NewTaskLemmas.{new_is}
use Rattle.script_start.proofs.from_blocks.task_of.Goals as goal

pub returns : goal.returns
returns c =
    new_is c.new.result c.args.number c.args.block c.into_vec.result.items c.args.passes
    c.into_vec.ensures c.new.ensures.number c.new.ensures.program c.new.ensures.position
    c.new.ensures.task
