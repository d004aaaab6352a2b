-- the rows that are left are still to come
use Rattle.std.proofs.Common.{◌≡◌, ◌++◌, drop}
use Rattle.std.specs.List.{flat_map}
use Rattle.order_top.specs.Text.{row_text}
use Rattle.order_top.proofs.text.push_rows.Given as goal

abbrev pub invariant-loop-row : goal.invariant-loop-row
invariant-loop-row l =
    l.out.items ++ flat_map (row_text l.first) (drop l.row-index l.rows)
    ≡ l.fn.out.items ++ flat_map (row_text l.first) l.rows
