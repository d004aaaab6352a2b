use Rattle.std.proofs.Common.{◌^◌, ◌≤◌, List, subst}
use Rattle.order_runs.specs.declared.rows.Row.{Row}
use Rattle.order_top.specs.Text.{total_count}
use Rattle.order_top.proofs.Totals.{too_many_orders}
use Rattle.order_top.proofs.top.table.Goals as goal

pub returns-in_default : goal.returns-in_default
returns-in_default c = (
  c.in_ok-too_many_line.ensures,
  too_many_orders c.args.part.now.play c.args.part.now.first.items c.args.most
      c.in_ok-rows.rows.items c.in_ok-rows.ensures
      (subst (λ (rows : List Row). 2 ^ 128 ≤ total_count rows) c.as_slice.ensures.value
      c.in_default.ensures),
)
