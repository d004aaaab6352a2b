use Rattle.std.proofs.Common.{◌≡◌, length, take}
use Rattle.std.specs.Prelude.{vec_len}
use Rattle.std.specs.Vec.{vec_capacity}
use Rattle.inode_pages.proofs.page.shared.Given as goal

abbrev pub invariant-loop-page : goal.invariant-loop-page
invariant-loop-page l = record {
  count : vec_len l.copy ≡ l.page-index;
  room : vec_capacity l.copy ≡ length l.pages;
  items : l.copy.items ≡ take l.page-index l.pages;
}
