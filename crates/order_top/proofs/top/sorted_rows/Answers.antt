use Rattle.order_top.proofs.top.sorted_rows.Goals as goal

pub returns-in_ok-too_many_line-in-Err-TooMany : goal.returns-in_ok-too_many_line-in-Err-TooMany
returns-in_ok-too_many_line-in-Err-TooMany c = (
  c.in_ok-too_many_line-in-Err-TooMany.ensures,
  c.in-Err-TooMany.ensures.too_many c.in-Err-TooMany.field-0-is,
)
