use Rattle.std.proofs.Common.{◌≡◌, drop}
use Rattle.std.specs.List.{list_any}
use Rattle.world_close.specs.Leaves.{may_append}
use Rattle.task_core.proofs.close.may_grow.Given as goal

-- none of the tasks so far can append a rule
abbrev pub invariant-loop-task : goal.invariant-loop-task
invariant-loop-task l =
    list_any may_append (drop l.task-index l.tasks) ≡ list_any may_append l.tasks
