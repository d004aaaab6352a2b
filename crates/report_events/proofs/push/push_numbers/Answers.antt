use Rattle.std.proofs.Common.{ℕ, List, ◌∷◌, ◌++◌, get_or, map, ap, ◌∙◌}
use Rattle.report_events.specs.Numerals.{numeral}
use Rattle.std.specs.List.{join_with_byte}
use Rattle.std.proofs.lemmas.List.{take_all}
use Rattle.report_events.proofs.Joins.{numbers_on}
use Rattle.report_events.proofs.push.push_numbers.Goals as goal

pub loop-number-preserved : goal.loop-number-preserved
loop-number-preserved c =
    let ns = c.args.numbers.now in
    let i = c.loop-number.number-index in
    numbers_on _ _ _ _ ns i c.loop-number-test.true c.loop-number.invariant
    (c.in_ok-push_number.ensures
    ∙ ap (λ l. l ++ numeral (get_or ns i 0)) c.in_ok-push.ensures.items)

pub returns : goal.returns
returns c =
    c.loop-number.invariant
    ∙ ap (λ (ns : List ℕ). c.args.out.now.items
    ++ join_with_byte 32 (c.args.words.now ∷ map numeral ns))
    (take_all c.loop-number.number-index c.args.numbers.now c.loop-number-test.false)
