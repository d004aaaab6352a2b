-- One more record.
use Rattle.std.proofs.Common.{◌≡◌, ◌+◌, arith}
use Rattle.list_carry.proofs.WritingLemmas.{form_length-more, sum_is}
use Rattle.list_carry.proofs.writing.form_length.Goals as goal

pub loop-e-preserved : goal.loop-e-preserved
loop-e-preserved c =
    let more = form_length-more c.args.list.now c.loop-e.e-index c.e-item.result (omega arith)
    c.e-item.is in
    let sum : c.in_ok-total.total ≡ c.loop-e.total + (10 + c.in_ok-more.field-0) =
    sum_is c.checked_add.result _ _ c.in_ok-total.total c.checked_add.ensures
    c.in_ok-total.ensures.ok_part in
    omega (arith, more, c.in_ok-more.ensures.exact, c.loop-e.invariant, sum)
