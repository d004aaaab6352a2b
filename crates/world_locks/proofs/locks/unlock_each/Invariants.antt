use Rattle.std.proofs.Common.{◌≡◌, length}
use Rattle.world_locks.specs.Each.{AreEach}
use Rattle.world_locks.proofs.locks.unlock_each.Given as goal

abbrev pub invariant-loop-mutex : goal.invariant-loop-mutex
invariant-loop-mutex g l = record {
  all : length l.world_inodes.items ≡ length l.yielded;
  each : AreEach g.N.Name.consts l.world_inodes.items;
}
