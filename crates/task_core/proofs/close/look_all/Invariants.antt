use Rattle.std.proofs.Common.{◌≡◌, length}
use Rattle.world_close.specs.Settled.{HaveLooked}
use Rattle.task_core.proofs.close.look_all.Given as goal

abbrev pub invariant-loop-k : goal.invariant-loop-k
invariant-loop-k l = record {
  consts : l.world.consts ≡ l.initial.world.consts;
  state : l.world.state ≡ l.initial.world.state;
  end : l.k-end ≡ length l.tasks.items;
  looked : HaveLooked l.initial.world.consts l.initial.world.state l.k l.initial.tasks.items
      l.tasks.items;
}
