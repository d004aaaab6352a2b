use Rattle.std.proofs.Common.{◌≡◌, [], List, length}
use Rattle.std.specs.Prelude.{All}
use Rattle.grow_list.specs.Shown.{Passed}
use Rattle.inode_events.specs.declared.told.Event.{Event}
use Rattle.world_start.proofs.world_inodes.empty_rows.Given as goal

abbrev pub invariant-loop : goal.invariant-loop
invariant-loop l = record {
  count : length l.rows.items ≡ l.counter;
  empty : All (λ (row : List (Passed Event)). row ≡ []) l.rows.items;
}
