use Rattle.std.proofs.Common.{◌<◌, ◌∙◌, sym, length, arith}
use Rattle.xattr_store.specs.Places.{IsFoundAt, IsGapAt}
use Rattle.xattr_store.proofs.Changed.{without_absent}
use Rattle.xattr_store.proofs.Search.{found_below, value_gap, without_found}
use Rattle.xattr_store.proofs.places.change_within.Goals as goal

pub remove-requires : goal.remove-requires
remove-requires c =
    let found : IsFoundAt c.args.name c.args.pairs.now.items c.in-Ok.place =
    rw (← c.as_slice.ensures.bytes, ← c.deref.ensures.value) c.in-Ok.ensures in
    let h : c.in-Ok.place < length c.args.pairs.now.items = found_below _ _ _ found in
    omega arith

pub returns-in-Ok-clause-items : goal.returns-in-Ok-clause-items
returns-in-Ok-clause-items c =
    let found : IsFoundAt c.args.name c.args.pairs.now.items c.in-Ok.place =
    rw (← c.as_slice.ensures.bytes, ← c.deref.ensures.value) c.in-Ok.ensures in
    rw c.in-None.is (c.remove.ensures.items ∙ without_found _ _ _ found)

pub returns-clause-items : goal.returns-clause-items
returns-clause-items c =
    let gap : IsGapAt c.args.name c.args.pairs.now.items c.in_default.field-0 =
    rw (← c.as_slice.ensures.bytes, ← c.deref.ensures.value) c.in_default.ensures in
    rw c.in-None.is (sym (without_absent _ _ (value_gap _ _ _ c.requires.attrs gap)))
