use Rattle.std.proofs.Common.{◌≡◌, ◌+◌, length, vec_len}
use Rattle.world_locks.specs.Each.{AreEach}
use Rattle.world_locks.proofs.locks.lock_each.Given as goal

abbrev pub invariant-loop-world_inode : goal.invariant-loop-world_inode
invariant-loop-world_inode g l = record {
  all : length l.left.items + length l.locked.items ≡ length g.N.Name.consts.each_inode;
  number : l.number ≡ length l.left.items;
  each : AreEach g.N.Name.consts l.left.items;
}

abbrev pub decreases-loop-world_inode : goal.decreases-loop-world_inode
decreases-loop-world_inode g l = vec_len l.left
