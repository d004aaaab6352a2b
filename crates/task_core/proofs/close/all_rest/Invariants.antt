use Rattle.std.proofs.Common.{◌≡◌, drop}
use Rattle.std.specs.List.{list_all}
use Rattle.inode_events.specs.NewestFirst.{newest_first}
use Rattle.inode_events.specs.Semaphores.{left}
use Rattle.world_close.specs.Leaves.{rests}
use Rattle.task_core.proofs.close.all_rest.Given as goal

-- none of the tasks so far can go on
abbrev pub invariant-loop-task : goal.invariant-loop-task
invariant-loop-task l =
    list_all (rests (λ sem. left sem (newest_first l.sems.list))) (drop l.task-index l.tasks)
    ≡ list_all (rests (λ sem. left sem (newest_first l.sems.list))) l.tasks
