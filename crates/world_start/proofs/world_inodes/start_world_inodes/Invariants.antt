use Rattle.std.proofs.Common.{deque_len}
use Rattle.world_start.specs.Started.{AreRows, StartsBefore}
use Rattle.world_start.proofs.world_inodes.start_world_inodes.Given as goal

abbrev pub invariant-loop-file : goal.invariant-loop-file
invariant-loop-file l = record {
  before : StartsBefore l.settings l.tasks l.fn.inodes.items l.fn.seats l.left.items l.seats
      l.world_inodes.items;
  rows : AreRows l.world_inodes.items l.tasks l.rows.items;
}

abbrev pub decreases-loop-file : goal.decreases-loop-file
decreases-loop-file l = deque_len l.left
