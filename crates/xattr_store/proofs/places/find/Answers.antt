use Rattle.std.proofs.Common.{◌≡◌, sym, subst, length, add-one, arith}
use Rattle.xattr_store.specs.Places.{IsPast}
use Rattle.xattr_store.proofs.Search.{found_past, gap_end, gap_past, past_more}
use Rattle.xattr_store.proofs.places.find.Goals as goal

pub returns-in-Less : goal.returns-in-Less
returns-in-Less c =
    gap_past _ _ _ c.index-pairs-place.result c.loop-place-test.true c.index-pairs-place.is
    (rw (← c.as_slice.ensures.bytes) (sym c.in-Less.ensures)) c.loop-place.invariant

pub returns-in-Equal : goal.returns-in-Equal
returns-in-Equal c =
    found_past _ _ _ c.index-pairs-place.result c.loop-place-test.true c.index-pairs-place.is
    (rw (← c.as_slice.ensures.bytes) (sym c.in-Equal.ensures)) c.loop-place.invariant

pub loop-place-preserved : goal.loop-place-preserved
loop-place-preserved c =
    rw add-one
    (past_more _ _ _ c.index-pairs-place.result c.loop-place-test.true c.index-pairs-place.is
    (rw (← c.as_slice.ensures.bytes) (sym c.in-Greater.ensures)) c.loop-place.invariant)

pub returns : goal.returns
returns c =
    let e : c.loop-place.place ≡ length c.args.pairs.now = omega arith in
    gap_end _ _ (subst (IsPast c.args.name.now c.args.pairs.now) e c.loop-place.invariant)
