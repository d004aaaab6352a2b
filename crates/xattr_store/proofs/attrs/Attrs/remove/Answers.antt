use Rattle.std.proofs.Common.{◌≡◌, ◌<◌, ◌∙◌, length, get_or, refl, arith}
use Rattle.std.specs.Prelude.{Some}
use Rattle.xattr_store.specs.Attrs.{value}
use Rattle.xattr_store.specs.Places.{IsFoundAt, IsGapAt}
use Rattle.xattr_store.proofs.OrderKept.{attrs-without}
use Rattle.xattr_store.proofs.Search.{found_below, value_found, value_gap, without_found}
use Rattle.xattr_store.proofs.attrs.Attrs.remove.Goals as goal

pub remove-requires : goal.remove-requires
remove-requires c =
    let h : c.in-Ok.place < length c.deref.result.now = found_below _ _ _ c.in-Ok.ensures in
    omega arith

pub invariant_of-self : goal.invariant_of-self
invariant_of-self c =
    let found : IsFoundAt c.args.name.now c.self.inside.pairs.items c.in-Ok.place =
    rw (← c.deref.ensures.value) c.in-Ok.ensures in
    rw (c.remove.ensures.items ∙ without_found _ _ _ found) (attrs-without _ _ c.self.invariant)

pub returns-in-Ok-clause-ok : goal.returns-in-Ok-clause-ok
returns-in-Ok-clause-ok c =
    let found : IsFoundAt c.args.name.now c.self.inside.pairs.items c.in-Ok.place =
    rw (← c.deref.ensures.value) c.in-Ok.ensures in
    rw (← c.self.view_is) (c.remove.ensures.items ∙ without_found _ _ _ found)

pub returns-in-Ok-clause-no_data : goal.returns-in-Ok-clause-no_data
returns-in-Ok-clause-no_data c =
    let found : IsFoundAt c.args.name.now c.self.inside.pairs.items c.in-Ok.place =
    rw (← c.deref.ensures.value) c.in-Ok.ensures in
    let there : value c.args.name.now c.args.self.now
    ≡ Some (get_or c.self.inside.pairs.items c.in-Ok.place c.remove.result).1 =
    rw (← c.self.view_is) (value_found _ _ _ c.remove.result found) in
    (λ h. (cc), λ h. (cc))

pub returns-in-Err-clause-no_data : goal.returns-in-Err-clause-no_data
returns-in-Err-clause-no_data c =
    let gap : IsGapAt c.args.name.now c.self.inside.pairs.items c.in-Err.field-0 =
    rw (← c.deref.ensures.value) c.in-Err.ensures in
    (λ _. rw (← c.self.view_is) (value_gap _ _ _ c.self.invariant gap), λ _. refl)
