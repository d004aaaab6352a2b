use Rattle.std.proofs.Common.{◌≡◌, ◌<◌, ◌≤◌, [], length, sym, ◌∙◌, arith}
use Rattle.std.proofs.lemmas.List.{get_or_read, take_all, take_more_same}
use Rattle.audit_trail.proofs.Pages.{same_bytes}
use Rattle.audit_trail.proofs.taken.are_same.Goals as goal

pub loop-number-preserved : goal.loop-number-preserved
loop-number-preserved c =
    let here : c.index-pages-number.result ≡ c.index-others-number.result =
    sym c.as_slice.ensures.bytes
    ∙ same_bytes c.as_slice.result.now c.as_slice-in-loop-number.result.now c.ne.result
    c.ne.ensures c.if-ne.false
    ∙ c.as_slice-in-loop-number.ensures.bytes in
    let below : c.loop-number.number < length c.args.others.now =
    omega (arith, c.if-pages-others.false, c.loop-number-test.true) in
    take_more_same c.args.pages.now c.args.others.now c.loop-number.number []
    c.loop-number-test.true below c.loop-number.invariant
    (sym (get_or_read c.args.pages.now c.loop-number.number c.index-pages-number.result
    c.loop-number-test.true c.index-pages-number.is [])
    ∙ here
    ∙ get_or_read c.args.others.now c.loop-number.number c.index-others-number.result below
    c.index-others-number.is [])

pub returns : goal.returns
returns c =
    let over : length c.args.others.now ≤ c.loop-number.number =
    omega (arith, c.if-pages-others.false, c.loop-number-test.false) in
    λ same. sym (take_all c.loop-number.number c.args.pages.now c.loop-number-test.false)
    ∙ c.loop-number.invariant ∙ take_all c.loop-number.number c.args.others.now over
