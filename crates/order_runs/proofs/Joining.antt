-- A way that is met as another one.
use Rattle.std.proofs.Common.{◌≡◌, ℕ, List, get_or, Option, Some, ap, subst, ◌∙◌, slice_get}
use Rattle.std.specs.Prelude.{IsSomeAnd, MatchOption, slice_set}
use Rattle.std.proofs.lemmas.Option.{get_or_from_slice_get}
use Rattle.order_outcomes.specs.counts.Layers.{joined}
use Rattle.order_outcomes.specs.counts.Rows.{Counted}
use Rattle.order_runs.specs.Steps.{CanMeet, IsMetAs}
use Rattle.order_runs.specs.declared.ways.Way.{Way}
use Rattle.order_runs.proofs.Rowing.{some_and}

-- the way at the place where it was found, with the counts of both
pub met_at : (old : List Way) (k : ℕ) (way seen held : Way) (o : Option Counted)
    (both : Counted) (Q : Type 0) → IsSomeAnd (slice_get old k) (λ (w : Way). CanMeet w way)
    → seen ≡ get_or old k seen → held ≡ get_or old k held
    → MatchOption o Q (λ b. b ≡ joined seen.counted way.counted) → o ≡ Some both
    → IsMetAs old way (slice_set old k (record held { counted = both }))
met_at old k way seen held o both Q there at_seen at_held sums is = record {
  place = k;
  before = found.0;
  at = found.1.0;
  meets = found.1.1;
  set = λ i. slice_set old k (record (same i) { counted = sum i });
}
  where
    found : (x : Way) × ((slice_get old k ≡ Some x) × CanMeet x way)
    found = some_and (λ (w : Way). CanMeet w way) (slice_get old k) there

    same : held ≡ found.0
    same = at_held ∙ get_or_from_slice_get old k found.0 held found.1.0

    sum : both ≡ joined found.0.counted way.counted
    sum = subst (λ (x : Option Counted). MatchOption x Q
        (λ b. b ≡ joined seen.counted way.counted)) is sums
        ∙ ap (λ (w : Way). joined w.counted way.counted)
        (at_seen ∙ get_or_from_slice_get old k found.0 seen found.1.0)
