use Rattle.std.proofs.Common.{◌≡◌, length}
use Rattle.world_start.proofs.Sharing.{Shares}
use Rattle.world_start.specs.Started.{pass_of}
use Rattle.world_start.proofs.rows.share_out.Given as goal

abbrev pub invariant-loop-k : goal.invariant-loop-k
invariant-loop-k l = record {
  end : l.k-end ≡ length l.rows.items;
  shares : Shares (pass_of l.world_inode) l.k l.fn.rows.items l.rows.items l.column.items;
}
