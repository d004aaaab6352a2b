use Rattle.std.proofs.Common.{◌≡◌, ℕ, ◌<◌, length, Some}
use Rattle.std.specs.Prelude.{slice_get, vec_capacity}
use Rattle.grow_list.specs.Views.{newborn}
use Rattle.grow_list.specs.Shown.{fresh}
use Rattle.grow_list.proofs.list.Grow.start.Given as goal

abbrev pub invariant-loop-number : goal.invariant-loop-number
invariant-loop-number g l = record {
  name : l.seat.table_id ≡ l.table.shared.table_id;
  words : l.table.shared.table_id.words ≡ 2;
  first : l.seat.id ≡ 0;
  view : l.seat.me.0 ≡ newborn l.callers;
  count : length l.passes.items ≡ l.number;
  room : vec_capacity l.passes ≡ l.callers;
  each : (k : ℕ) → k < length l.passes.items → slice_get l.passes.items k
      ≡ Some (fresh l.seat.table_id k);
}
