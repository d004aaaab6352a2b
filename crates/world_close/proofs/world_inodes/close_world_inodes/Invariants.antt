use Rattle.std.proofs.Common.{◌≡◌, length, vec_len}
use Rattle.world_close.specs.Closed.{AreClosedAfter}
use Rattle.world_close.specs.Rows.{AreNamed, RowsFit}
use Rattle.world_close.proofs.world_inodes.close_world_inodes.Given as goal

abbrev pub ghost-close_last : goal.ghost-close_last
ghost-close_last g a = g.names

abbrev pub invariant-loop-world_inode : goal.invariant-loop-world_inode
invariant-loop-world_inode g l = record {
  count : length l.rows.items ≡ length l.fn.rows.items;
  fit : RowsFit (length l.left.items) g.names l.rows.items;
  named : AreNamed g.names (length l.rows.items) l.left.items;
  closed : AreClosedAfter l.fn.world_inodes.items l.left.items l.closed.inodes l.closed.book
      l.closed.rules;
}

abbrev pub decreases-loop-world_inode : goal.decreases-loop-world_inode
decreases-loop-world_inode g l = vec_len l.left
