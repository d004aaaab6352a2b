use Rattle.std.proofs.Common.{ap, sym, ◌∙◌}
use Rattle.std.specs.List.{list_any}
use Rattle.std.specs.Str.{bytes_eq}
use Rattle.evm_verify.proofs.AnyName.{any_here, any_later, any_nowhere}
use Rattle.evm_verify.proofs.names.is_among.Goals as goal

pub returns-then-eq : goal.returns-then-eq
returns-then-eq c =
    let test = bytes_eq c.args.name.now in
    any_here test c.args.names.now c.loop-other.other-index c.other-item.result
    (list_any test c.args.names.now) c.loop-other-test.true c.other-item.is
    (ap test (sym c.as_slice.ensures.bytes) ∙ sym c.if-eq.ensures) c.loop-other.invariant

pub loop-other-preserved : goal.loop-other-preserved
loop-other-preserved c =
    let test = bytes_eq c.args.name.now in
    any_later test c.args.names.now c.loop-other.other-index c.other-item.result
    (list_any test c.args.names.now) c.loop-other-test.true c.other-item.is
    (ap test (sym c.as_slice.ensures.bytes) ∙ sym c.if-eq.ensures) c.loop-other.invariant

pub returns : goal.returns
returns c =
    let test = bytes_eq c.args.name.now in
    any_nowhere test c.args.names.now c.loop-other.other-index (list_any test c.args.names.now)
    c.loop-other-test.false c.loop-other.invariant
