use Rattle.std.proofs.Common.{◌<◌, ◌^◌, arith, rules}
use Rattle.std.proofs.lemmas.Grind.{common_steps}
use Rattle.report_events.proofs.Numerals.{numeral_of_wide}
use Rattle.report_text.proofs.totals.push_sum.Goals as goal

pub returns : goal.returns
returns c =
    let fits : c.args.n < 2 ^ 128 = omega arith in
    rw (← numeral_of_wide c.args.n fits)
    (first_of (search rules, grind (arith, common_steps)))
