use Rattle.std.proofs.Common.{rules, ◌<◌, ◌∙◌, ap, length, sym}
use Rattle.std.specs.Prelude.{Some}
use Rattle.xattr_store.proofs.Search.{found_below, value_found, value_gap}
use Rattle.xattr_store.proofs.places.value_in.Goals as goal

pub offset_bounds-pairs-place : goal.offset_bounds-pairs-place
offset_bounds-pairs-place c =
    let h : c.in-Ok.place < length c.args.pairs.now = found_below _ _ _ c.in-Ok.ensures in
    search rules

pub bounds-pairs-place : goal.bounds-pairs-place
bounds-pairs-place c = found_below _ _ _ c.in-Ok.ensures

pub returns-in-Ok : goal.returns-in-Ok
returns-in-Ok c =
    ap Some c.as_slice.ensures.bytes
    ∙ sym (value_found _ _ _ c.index-pairs-place.result c.in-Ok.ensures)

pub returns-in-Err : goal.returns-in-Err
returns-in-Err c = sym (value_gap _ _ _ c.requires c.in-Err.ensures)
