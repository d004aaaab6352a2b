use Rattle.std.proofs.Common.{◌≡◌, ◌++◌, drop, length, None}
use Rattle.view_journal.specs.Columns.{columns_from}
use Rattle.view_journal.specs.Walk.{IsSmall, shown_by, start}
use Rattle.view_journal.specs.WalkView.{walk_of}
use Rattle.view_journal.proofs.column.columns.Given as goal

-- the columns so far, and those of the other events, which the walk goes on to show
abbrev pub invariant-loop-place : goal.invariant-loop-place
invariant-loop-place l = record {
  held : length l.walk.held.items ≡ l.place;
  small : IsSmall (walk_of l.walk);
  same : l.columns.items
      ++ columns_from l.windows l.place l.hashing (drop l.place l.journal)
      (shown_by (walk_of l.walk) (drop l.place l.journal))
      ≡ columns_from l.windows 0 None l.journal (shown_by start l.journal);
}
