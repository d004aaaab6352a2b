-- The passes of all tasks: a row for each task, and a column for each journal.
use Rattle.std.specs.Prelude.{◌≡◌, ℕ, ◌+◌, ◌<◌, ◌≤◌, List, length, Some, slice_get}
use Rattle.grow_list.specs.Shown.{ListName, Passed}
use Rattle.inode_events.specs.declared.told.Event.{Event}
use Rattle.world_model.specs.World.{WorldInodeValue}

-- the row of task k has a pass of each of the first n journals
pub record RowFits (n : ℕ) (names : ℕ → ListName) (k : ℕ) (row : List (Passed Event)) : Type 0 where
  pub count : length row ≡ n
  pub each : (i : ℕ) (q : Passed Event) → slice_get row i ≡ Some q
      → (q.number ≡ k + 1) × (q.name ≡ names i)

abbrev pub RowsFit : ℕ → (ℕ → ListName) → List (List (Passed Event)) → Type 0
RowsFit n names rows = (k : ℕ) (row : List (Passed Event)) → slice_get rows k ≡ Some row
    → RowFits n names k row

-- the column has a pass of each task, in order, of the journal of this name
abbrev pub ColumnFits : ListName → List (Passed Event) → Type 0
ColumnFits name column = (k : ℕ) (q : Passed Event) → slice_get column k ≡ Some q
    → (q.number ≡ k + 1) × (q.name ≡ name)

-- each of the first k rows has given its last pass to the column
pub record RowsMid (k n : ℕ) (names : ℕ → ListName) (rows : List (List (Passed Event)))
    (column : List (Passed Event)) : Type 0 where
  pub count : length column ≡ k
  pub column_fits : ColumnFits (names n) column
  pub given : (j : ℕ) (row : List (Passed Event)) → j < k → slice_get rows j ≡ Some row
      → RowFits n names j row
  pub left : (j : ℕ) (row : List (Passed Event)) → k ≤ j → slice_get rows j ≡ Some row
      → RowFits (n + 1) names j row

-- the journal of the k-th inode has the k-th name, and as callers itself and each task
abbrev pub AreNamed : (ℕ → ListName) → ℕ → List WorldInodeValue → Type 0
AreNamed names tasks world_inodes =
    (k : ℕ) (s : WorldInodeValue) → slice_get world_inodes k ≡ Some s
    → (s.cell.journal ≡ names k) × (s.cell.callers ≡ tasks + 1)
