use Rattle.std.proofs.Common.{◌≡◌, ◌<◌, ◌≤◌, ◌++◌, All, drop, length}
use Rattle.view_journal.specs.Frame.{rows, rows_from}
use Rattle.view_journal.proofs.frame.rows.Given as goal

-- the rows so far, and those of the other bars
abbrev pub invariant-loop-bar : goal.invariant-loop-bar
invariant-loop-bar l = record {
  each : length l.rows.items ≡ l.bar-index;
  few : length l.ends.items ≤ l.bar-index;
  small : All (λ r. r < length l.bars) l.rows.items;
  same : l.rows.items ++ rows_from l.ends.items (drop l.bar-index l.bars) ≡ rows l.bars;
}
