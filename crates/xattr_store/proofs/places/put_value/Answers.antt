use Rattle.std.proofs.Common.{◌<◌, ◌∙◌, ap, suc, length, set, arith}
use Rattle.xattr_store.specs.Attrs.{Pair, put}
use Rattle.xattr_store.specs.Places.{IsFoundAt, IsGapAt}
use Rattle.xattr_store.proofs.Search.{found_below, gap_within, put_found, put_gap}
use Rattle.xattr_store.proofs.places.put_value.Goals as goal

pub index_mut-requires : goal.index_mut-requires
index_mut-requires c =
    let h : c.in-Ok.place < length c.deref.result.now = found_below _ _ _ c.in-Ok.ensures in
    omega arith

pub insert-requires : goal.insert-requires
insert-requires c =
    let h : c.in-Err.place < suc (length c.deref.result.now) = gap_within _ _ _ c.in-Err.ensures in
    omega arith

pub returns-in-Ok : goal.returns-in-Ok
returns-in-Ok c =
    let found : IsFoundAt c.args.name.now c.args.pairs.now.items c.in-Ok.place =
    rw (← c.deref.ensures.value) c.in-Ok.ensures in
    ap (λ (p : Pair). set c.args.pairs.now.items c.in-Ok.place (p.0, c.in_ok-value.value))
    c.index_mut.ensures.value
    ∙ put_found _ c.in_ok-value.value _ _ c.index_mut.result.now found
    ∙ ap (λ bytes. put c.args.name.now bytes c.args.pairs.now.items) c.in_ok-value.ensures.bytes

pub returns-in_ok-insert-in-Err : goal.returns-in_ok-insert-in-Err
returns-in_ok-insert-in-Err c =
    let gap : IsGapAt c.args.name.now c.args.pairs.now.items c.in-Err.place =
    rw (← c.deref.ensures.value) c.in-Err.ensures in
    c.in_ok-insert-in-Err.ensures.items
    ∙ rw (c.in_ok-name-in-Err.ensures.bytes, c.in_ok-value.ensures.bytes) (put_gap _ _ _ _ gap)
