-- The tasks so far are new, and the blocks and the passes of the others are left.
use Rattle.script_start.proofs.NewTaskLemmas.{AreMade}
use Rattle.script_start.proofs.from_blocks.new_tasks.Given as goal

abbrev pub invariant-loop-block : goal.invariant-loop-block
invariant-loop-block l =
    AreMade l.fn.blocks.items l.block-iterator.rest.items l.fn.passes.items l.left.items
    l.tasks.items
