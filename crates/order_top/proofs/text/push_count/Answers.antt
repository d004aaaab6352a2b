use Rattle.std.proofs.Common.{◌++◌, List, ℕ, ap, ◌∙◌}
use Rattle.report_text.proofs.Numerals.{numeral_of_wide}
use Rattle.order_top.proofs.text.push_count.Goals as goal

pub returns : goal.returns
returns c =
    c.in_ok-extend_from_slice.ensures.items
    ∙ ap (λ (l : List ℕ). c.args.out.now.items ++ l)
    (c.as_bytes.ensures.value ∙ c.in_ok-digits.ensures.ok
    ∙ numeral_of_wide c.args.count c.ranges.count.fits)
