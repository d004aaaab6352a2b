use Rattle.std.proofs.Common.{◌≡◌, ◌<◌, drop}
use Rattle.view_layout.specs.Drawing.{end_from, end_of}
use Rattle.view_layout.proofs.scenery.end_of.Given as goal

-- the right edge so far
abbrev pub invariant-loop-column : goal.invariant-loop-column
invariant-loop-column l = record {
  small : l.x < 8589934592;
  same : end_from l.x (drop l.column-index l.columns) ≡ end_of l.columns;
}
