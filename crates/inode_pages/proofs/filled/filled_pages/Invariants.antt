use Rattle.std.proofs.Common.{◌≡◌, ℕ, ◌<◌, Some}
use Rattle.std.specs.Prelude.{replicate, slice_get, vec_len}
use Rattle.std.specs.Vec.{vec_capacity}
use Rattle.inode_pages.specs.Content.{piece_at}
use Rattle.inode_pages.proofs.filled.filled_pages.Given as goal

abbrev pub invariant-loop-k : goal.invariant-loop-k
invariant-loop-k l = record {
  count : vec_len l.pages ≡ l.k;
  room : vec_capacity l.pages ≡ l.needed;
  each : (j : ℕ) → j < vec_len l.pages → slice_get l.pages.items j
      ≡ Some (piece_at (replicate l.count l.byte) j);
}
