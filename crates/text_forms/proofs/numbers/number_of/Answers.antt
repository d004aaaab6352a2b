use Rattle.std.proofs.Common.{◌+◌, ◌*◌, ◌<◌, ◌∙◌, arith}
use Rattle.text_forms.proofs.Digits.{number_of-above, more_digits}
use Rattle.text_forms.proofs.numbers.number_of.Goals as goal

pub returns-in_err-value : goal.returns-in_err-value
returns-in_err-value c =
    let digit = rw c.from.ensures at c.in_ok-digit.ensures.value in
    let radix = c.from-in-loop-digit.ensures in
    let large : c.args.most < c.loop-digit.value * c.args.radix + c.in_ok-digit.digit =
    omega (arith, rw radix at c.in_err-value.ensures) in
    c.from_residual-in_err-value.ensures
    ∙ number_of-above c.args.radix c.args.most c.args.digits.now c.loop-digit.digit-index
    c.loop-digit.value c.in_ok-digit.digit (omega arith) c.loop-digit-test.true
    c.loop-digit.invariant.value digit.1 large

pub returns-in_err-value-2 : goal.returns-in_err-value-2
returns-in_err-value-2 c =
    let digit = rw c.from.ensures at c.in_ok-digit.ensures.value in
    let product = rw c.from-in-loop-digit.ensures at c.in_ok-value.ensures.1 in
    let large : c.args.most < c.loop-digit.value * c.args.radix + c.in_ok-digit.digit =
    omega (arith, product, c.in_err-value-2.ensures, c.from-in-loop-digit-2.ensures) in
    c.from_residual-in_err-value-2.ensures
    ∙ number_of-above c.args.radix c.args.most c.args.digits.now c.loop-digit.digit-index
    c.loop-digit.value c.in_ok-digit.digit (omega arith) c.loop-digit-test.true
    c.loop-digit.invariant.value digit.1 large

pub loop-digit-preserved : goal.loop-digit-preserved
loop-digit-preserved c =
    let digit = rw c.from.ensures at c.in_ok-digit.ensures.value in
    let product = rw c.from-in-loop-digit.ensures at c.in_ok-value.ensures.1 in
    let sum = rw (product, c.from-in-loop-digit-2.ensures) at c.in_ok-value-2.ensures.1 in
    let more = more_digits c.args.radix c.args.digits.now c.loop-digit.digit-index
    c.loop-digit.value c.in_ok-digit.digit c.loop-digit-test.true c.loop-digit.invariant.value
    c.loop-digit.invariant.digits digit.0 digit.1 in
    record { value = sum ∙ more.0; digits = more.1 }
