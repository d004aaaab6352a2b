use Rattle.std.proofs.Common.{◌≡◌, drop}
use Rattle.std.specs.List.{list_any}
use Rattle.view_layout.specs.Drawing.{is_executed}
use Rattle.view_layout.proofs.strips.is_executed.Given as goal

-- none of the columns so far shows one
abbrev pub invariant-loop-column : goal.invariant-loop-column
invariant-loop-column l =
    list_any is_executed (drop l.column-index l.columns) ≡ list_any is_executed l.columns
