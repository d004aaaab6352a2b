use Rattle.std.proofs.Common.{◌<◌, ◌∙◌, ap, subst, suc, length, set, arith}
use Rattle.std.specs.Prelude.{MatchResult}
use Rattle.xattr_store.specs.Attrs.{Pair}
use Rattle.xattr_store.specs.Places.{IsFoundAt, IsGapAt}
use Rattle.xattr_store.proofs.Search.{found_below, gap_within, put_found, put_gap}
use Rattle.xattr_store.proofs.places.put_at.Goals as goal

pub index_mut-requires : goal.index_mut-requires
index_mut-requires c =
    let name = c.args.name in
    let items = c.args.pairs.now.items in
    let found : IsFoundAt name items c.in-Ok.place =
    subst (λ r. MatchResult r (IsFoundAt name items) (IsGapAt name items)) c.in-Ok.is
    c.requires.found in
    let h : c.in-Ok.place < length items = found_below _ _ _ found in
    omega arith

pub insert-requires : goal.insert-requires
insert-requires c =
    let name = c.args.name in
    let items = c.args.pairs.now.items in
    let gap : IsGapAt name items c.in-Err.place =
    subst (λ r. MatchResult r (IsFoundAt name items) (IsGapAt name items)) c.in-Err.is
    c.requires.found in
    let h : c.in-Err.place < suc (length items) = gap_within _ _ _ gap in
    omega arith

pub returns-in-Ok-clause-items : goal.returns-in-Ok-clause-items
returns-in-Ok-clause-items c =
    let name = c.args.name in
    let items = c.args.pairs.now.items in
    let found : IsFoundAt name items c.in-Ok.place =
    subst (λ r. MatchResult r (IsFoundAt name items) (IsGapAt name items)) c.in-Ok.is
    c.requires.found in
    ap (λ (p : Pair). set items c.in-Ok.place (p.0, c.args.value)) c.index_mut.ensures.value
    ∙ put_found _ _ _ _ c.index_mut.result.now found

pub returns-in-Err-clause-items : goal.returns-in-Err-clause-items
returns-in-Err-clause-items c =
    let name = c.args.name in
    let items = c.args.pairs.now.items in
    let gap : IsGapAt name items c.in-Err.place =
    subst (λ r. MatchResult r (IsFoundAt name items) (IsGapAt name items)) c.in-Err.is
    c.requires.found in
    c.insert.ensures.items
    ∙ rw (c.insert.ensures.succeeds c.requires.room) (put_gap _ _ _ _ gap)
