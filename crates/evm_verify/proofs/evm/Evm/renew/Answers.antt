use Rattle.std.proofs.Common.{◌≡◌, ◌∙◌, sym, ap, true, false}
use Rattle.std.specs.Prelude.{Some}
use Rattle.evm_verify.specs.Input.{any_present, evm_name, protected_names}
use Rattle.evm_verify.proofs.Renewal.{names_are, removed, renewed_absent, renewed_present}
use Rattle.evm_verify.proofs.evm.Evm.renew.Goals as goal

pub returns-then-not-any_present-clause-ok : goal.returns-then-not-any_present-clause-ok
returns-then-not-any_present-clause-ok c =
    let key : c.args.self.now.key ≡ Some c.in-Some.key = rw (← c.self.view_is) c.in-Some.is in
    let names : protected_names c.args.self.now ≡ c.self.inside.names.items =
    rw (← c.self.view_is) (names_are _ c.self.invariant) in
    let none : any_present (protected_names c.args.self.now) c.args.attrs.now ≡ false =
    ap (λ ns. any_present ns c.args.attrs.now) (names ∙ sym c.deref.ensures.value)
    ∙ sym c.any_present.ensures ∙ c.if-not-any_present.true in
    removed evm_name _ _ c.remove.result c.remove.ensures.ok c.remove.ensures.no_data.0
    c.remove.ensures.err
    ∙ sym (renewed_absent _ _ _ _ key none)

pub returns-in-Ok-clause-ok : goal.returns-in-Ok-clause-ok
returns-in-Ok-clause-ok c =
    let key : c.args.self.now.key ≡ Some c.in-Some.key = rw (← c.self.view_is) c.in-Some.is in
    let names : protected_names c.args.self.now ≡ c.self.inside.names.items =
    rw (← c.self.view_is) (names_are _ c.self.invariant) in
    let there : any_present (protected_names c.args.self.now) c.args.attrs.now ≡ true =
    ap (λ ns. any_present ns c.args.attrs.now) (names ∙ sym c.deref.ensures.value)
    ∙ sym c.any_present.ensures ∙ c.if-not-any_present.false in
    c.in-Ok.ensures.ok
    ∙ rw (c.value_now-value.ensures, c.as_slice.ensures.bytes)
    (sym (renewed_present _ _ _ _ key there))
