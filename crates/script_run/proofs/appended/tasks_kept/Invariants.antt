-- the calls of the tasks so far keep their rules
use Rattle.std.proofs.Common.{take}
use Rattle.std.specs.List.{AllByRecursion}
use Rattle.script_text.specs.declared.blocks.TaskBlock.{TaskBlock}
use Rattle.script_run.specs.Run.{KeepsRule}
use Rattle.script_run.proofs.appended.tasks_kept.Given as goal

abbrev pub invariant-loop-task : goal.invariant-loop-task
invariant-loop-task l =
    AllByRecursion (λ (b : TaskBlock). AllByRecursion KeepsRule b.calls)
    (take l.task-index l.tasks)
