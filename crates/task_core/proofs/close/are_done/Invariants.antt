use Rattle.std.proofs.Common.{◌≡◌, drop}
use Rattle.std.specs.List.{list_all}
use Rattle.world_close.specs.Leaves.{done_by}
use Rattle.task_core.proofs.close.are_done.Given as goal

-- each of the tasks so far is done
abbrev pub invariant-loop-task : goal.invariant-loop-task
invariant-loop-task l =
    list_all done_by (drop l.task-index l.tasks) ≡ list_all done_by l.tasks
