use Rattle.std.proofs.Common.{◌≡◌, map}
use Rattle.world_model.specs.Tasks.{Tasked}
use Rattle.world_close.specs.Leaves.{task_left}
use Rattle.task_core.proofs.close.part.Given as goal

abbrev pub invariant-loop-task : goal.invariant-loop-task
invariant-loop-task l = record {
  passes : l.passes.items ≡ map (λ (t : Tasked). t.passes) l.yielded;
  ended : l.ended.items ≡ map task_left l.yielded;
}
