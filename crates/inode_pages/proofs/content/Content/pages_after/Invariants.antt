use Rattle.std.proofs.Common.{◌≡◌, ℕ, ◌+◌, ◌<◌, Some}
use Rattle.std.specs.Prelude.{slice_get, vec_len}
use Rattle.std.specs.Vec.{vec_capacity}
use Rattle.inode_pages.specs.Content.{overwritten, piece_at}
use Rattle.inode_pages.proofs.content.Content.pages_after.Given as goal

abbrev pub invariant-loop-k : goal.invariant-loop-k
invariant-loop-k l = record {
  count : l.first + vec_len l.pages ≡ l.k;
  room : vec_capacity l.pages ≡ l.count;
  each : (j : ℕ) → j < vec_len l.pages → slice_get l.pages.items j
      ≡ Some (piece_at (overwritten l.self l.from l.b) (l.first + j));
}
