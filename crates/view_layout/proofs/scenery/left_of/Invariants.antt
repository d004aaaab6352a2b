use Rattle.std.proofs.Common.{◌≡◌, drop}
use Rattle.view_layout.specs.Drawing.{left_of}
use Rattle.view_layout.proofs.scenery.left_of.Given as goal

-- the columns so far are before the bar
abbrev pub invariant-loop-column : goal.invariant-loop-column
invariant-loop-column l =
    left_of l.file (drop l.column-index l.columns) ≡ left_of l.file l.columns
