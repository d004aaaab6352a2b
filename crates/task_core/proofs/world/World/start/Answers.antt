-- The parts belong to the constants.
use Rattle.task_core.proofs.world.World.start.Goals as goal

pub invariant_of-world : goal.invariant_of-world
invariant_of-world c =
    let e = c.in_ok-start.ensures in
    record {
      parts = record {
        world_inodes = e.world_inodes.each;
        book = e.book;
        sems = e.sems;
        rules = e.rules;
      };
      spares = e.spares;
    }
