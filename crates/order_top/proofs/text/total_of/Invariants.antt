-- the number of the orders of the rows so far
use Rattle.std.proofs.Common.{◌≡◌, take}
use Rattle.order_top.specs.Text.{total_count}
use Rattle.order_top.proofs.text.total_of.Given as goal

abbrev pub invariant-loop-row : goal.invariant-loop-row
invariant-loop-row l = l.total ≡ total_count (take l.row-index l.rows)
