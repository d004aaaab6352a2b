use Rattle.std.proofs.Common.{◌≡◌, ◌≤◌, drop}
use Rattle.view_lanes.specs.Lanes.{rows_from_least}
use Rattle.view_lanes.proofs.lanes.height_of.Given as goal

-- the number of rows so far, to which the other rows come
abbrev pub invariant-loop-row : goal.invariant-loop-row
invariant-loop-row l = record {
  small : l.least ≤ 240;
  same : rows_from_least l.least (drop l.row-index l.rows) ≡ rows_from_least 1 l.rows;
}
