use Rattle.std.proofs.Common.{ℕ, List, ◌<◌, length, subst, sym}
use Rattle.std.proofs.lemmas.Bool.{true≢false}
use Rattle.std.specs.Prelude.{All}
use Rattle.std.proofs.lemmas.Result.{err_from_is_err_and}
use Rattle.order_told.specs.Told.{IsThere}
use Rattle.order_told.proofs.told.same_entries.Goals as goal

pub returns : goal.returns
returns c = λ t.
    let list = c.args.list.now in
    let other = c.args.other.now in
    let places = c.in_ok-places.places.items in
    let others = c.in_ok-others.others.items in
    let here = c.as_slice-here.ensures.value in
    let there = c.as_slice-there.ensures.value in
    record {
      places = places;
      places2 = others;
      told = c.in_ok-places.ensures;
      told2 = c.in_ok-others.ensures;
      below = subst (λ (ps : List ℕ). All (λ p. p < length list) ps) here
          (c.are_below.ensures c.if-not-are_below.false);
      below2 = subst (λ (ps : List ℕ). All (λ p. p < length other) ps) there
          (c.are_below-2.ensures c.if-not-are_below-2.false);
      there = subst (λ (ps : List ℕ). All (IsThere other others list) ps) here
          (subst (λ (ps : List ℕ). All (IsThere other ps list) c.as_slice-here.result.now) there
          (c.are_there.ensures c.if-not-are_there.false));
      back = subst (λ (ps : List ℕ). All (IsThere list places other) ps) there
          (subst (λ (ps : List ℕ). All (IsThere list ps other) c.as_slice-there.result.now) here
          (c.are_there-2.ensures t));
    }

pub returns-in_err-places : goal.returns-in_err-places
returns-in_err-places c =
    let p = err_from_is_err_and c.from_residual.result c.from_residual.ensures.1 in
    rw (p.1) tt

pub returns-in_err-others : goal.returns-in_err-others
returns-in_err-others c =
    let p = err_from_is_err_and c.from_residual-in_err-others.result c.from_residual-in_err-others.ensures.1 in
    rw (p.1) tt

pub returns-then-not-are_below : goal.returns-then-not-are_below
returns-then-not-are_below c = λ t. absurd (true≢false (sym t))

pub returns-then-not-are_below-2 : goal.returns-then-not-are_below-2
returns-then-not-are_below-2 c = λ t. absurd (true≢false (sym t))

pub returns-then-not-are_there : goal.returns-then-not-are_there
returns-then-not-are_there c = λ t. absurd (true≢false (sym t))
