use Rattle.std.proofs.Common.{◌≡◌, ℕ, List, Option, Some, None, Bor, is_some, refl, ap, sym, ◌∙◌}
use Rattle.std.specs.Option.{option_copied}
use Rattle.xattr_store.specs.Attrs.{value}
use Rattle.evm_verify.specs.Input.{any_present}
use Rattle.evm_verify.proofs.AnyName.{any_here, any_later, any_nowhere}
use Rattle.evm_verify.proofs.names.any_present_after.Goals as goal

copied : (o : Option (Bor (List ℕ))) → is_some (option_copied o) ≡ is_some o
copied None = refl
copied (Some x) = refl

pub returns-then-is_some : goal.returns-then-is_some
returns-then-is_some c =
    let test = λ (name : List ℕ). is_some (value name c.args.attrs.now) in
    any_here test c.args.names.now c.loop-name.name-index c.name-item.result
    (any_present c.args.names.now c.args.attrs.now) c.loop-name-test.true c.name-item.is
    (ap test (sym c.as_slice.ensures.bytes) ∙ ap is_some (sym c.get.ensures) ∙ copied c.get.result
    ∙ sym c.if-is_some.ensures)
    c.loop-name.invariant

pub loop-name-preserved : goal.loop-name-preserved
loop-name-preserved c =
    let test = λ (name : List ℕ). is_some (value name c.args.attrs.now) in
    any_later test c.args.names.now c.loop-name.name-index c.name-item.result
    (any_present c.args.names.now c.args.attrs.now) c.loop-name-test.true c.name-item.is
    (ap test (sym c.as_slice.ensures.bytes) ∙ ap is_some (sym c.get.ensures) ∙ copied c.get.result
    ∙ sym c.if-is_some.ensures)
    c.loop-name.invariant

pub returns : goal.returns
returns c =
    let test = λ (name : List ℕ). is_some (value name c.args.attrs.now) in
    any_nowhere test c.args.names.now c.loop-name.name-index
    (any_present c.args.names.now c.args.attrs.now)
    c.loop-name-test.false c.loop-name.invariant
