-- The passes below the index have looked, and the others are as they were.
use Rattle.task_steps.specs.Looking.{HaveLookedTo}
use Rattle.task_steps.proofs.looking.look_at_inodes.Given as goal

abbrev pub invariant-loop-i : goal.invariant-loop-i
invariant-loop-i l =
    HaveLookedTo l.i l.initial.world_inodes.items l.world_inodes.items l.initial.passes.items
    l.passes.items
