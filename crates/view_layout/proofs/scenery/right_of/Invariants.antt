use Rattle.std.proofs.Common.{◌≡◌, drop}
use Rattle.view_layout.specs.Drawing.{right_from}
use Rattle.view_layout.proofs.scenery.right_of.Given as goal

-- where the bar ends among the columns so far
abbrev pub invariant-loop-column : goal.invariant-loop-column
invariant-loop-column l =
    right_from l.x l.still l.last (drop l.column-index l.columns)
    ≡ right_from 0 l.still l.last l.columns
