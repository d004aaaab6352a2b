use Rattle.std.proofs.Common.{◌≡◌, ◌∙◌, sym, ap, subst, true, List}
use Rattle.std.specs.Option.{option_copied}
use Rattle.std.specs.Prelude.{Some, OnOk}
use Rattle.xattr_store.specs.Attrs.{Pair, changed, put}
use Rattle.evm_verify.specs.Input.{any_present, evm_input, evm_name, evm_value, protected_names}
use Rattle.evm_verify.proofs.Renewal.{names_are, renewed_present}
use Rattle.evm_verify.proofs.evm.Evm.change.Goals as goal

pub returns-clause-ok : goal.returns-clause-ok
returns-clause-ok c =
    let attrs : List Pair = changed c.args.change.name.now (option_copied c.args.change.value)
    c.args.attrs.now in
    let key : c.args.self.now.key ≡ Some c.in-Some.key = rw (← c.self.view_is) c.in-Some.is in
    let names : protected_names c.args.self.now ≡ c.self.inside.names.items =
    rw (← c.self.view_is) (names_are _ c.self.invariant) in
    let there : any_present (protected_names c.args.self.now) attrs ≡ true =
    ap (λ ns. any_present ns attrs) (names ∙ sym c.deref.ensures.value)
    ∙ ap (any_present c.deref.result.now) (sym c.change-after.ensures)
    ∙ sym c.any_present_after.ensures ∙ c.if-not-any_present_after.false in
    let value : c.value_after-value.result
    ≡ evm_value c.in-Some.key (evm_input c.args.self.now attrs c.args.meta.now) =
    c.value_after-value.ensures
    ∙ ap (λ k. evm_value k (evm_input c.args.self.now c.change-after.result c.args.meta.now))
    c.as_slice.ensures.bytes
    ∙ ap (λ (l : List Pair). evm_value c.in-Some.key (evm_input c.args.self.now l c.args.meta.now))
    c.change-after.ensures in
    subst (λ l. OnOk c.change_both-2.result (c.change_both-2.new.self ≡ l))
    (ap (λ v. put evm_name v attrs) value
    ∙ sym (renewed_present c.args.self.now c.in-Some.key attrs c.args.meta.now key there))
    c.change_both-2.ensures.ok
