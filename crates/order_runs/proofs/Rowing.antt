-- An order that is counted in the row of its outcome.
use Rattle.std.proofs.Common.{◌≡◌, ◌<◌, ◌⊎◌, ℕ, zero, suc, All, Contains, List, [], ◌∷◌, ◌++◌, length, get_or, Option, Some, None, option_map, slice_get, slice_set, refl, ap, sym, subst, ◌∙◌, inl, inr, arith}
use Rattle.std.specs.Prelude.{IsSomeAnd}
use Rattle.std.proofs.lemmas.List.{map-append, map-set}
use Rattle.std.proofs.lemmas.List.Elements.{All-contains, All-push, All-set}
use Rattle.std.proofs.lemmas.Option.{get_or_from_slice_get, none-some, same_Some, slice_get-get_or, slice_get-map, slice_get_within}
use Rattle.order_outcomes.proofs.about_counts.Adding.{joined_is, met, pushed}
use Rattle.order_outcomes.specs.Orders.{moved, outcome_at}
use Rattle.order_outcomes.specs.counts.Layers.{HaveOneOutcome, IsAdded, IsJoined, joined}
use Rattle.order_outcomes.specs.counts.Laws.{AreDistinct}
use Rattle.order_outcomes.specs.counts.Rows.{Counted, outcome_after}
use Rattle.order_runs.specs.Steps.{AreApart, HasNone, HasOutcome, IsJoinedTo, IsRowAdded, begun, counted_rows, led_on}
use Rattle.order_runs.specs.declared.part.Part.{Part}
use Rattle.order_runs.specs.declared.rows.Row.{Row}

-- ---- places in a list with one item more, and in one with an item replaced

got_push : {X : Type 0} (xs : List X) (y : X) (k : ℕ) (z : X) → slice_get (xs ++ y ∷ []) k ≡ Some z
    → (slice_get xs k ≡ Some z) ⊎ ((k ≡ length xs) × (y ≡ z))
got_push [] y zero z h = inr (refl, same_Some y z h)
got_push [] y (suc k) z h = absurd (none-some z h)
got_push (x ∷ xs) y zero z h = inl h
got_push (x ∷ xs) y (suc k) z h = by (got_push xs y k z h)
  where
    by : (slice_get xs k ≡ Some z) ⊎ ((k ≡ length xs) × (y ≡ z))
        → (slice_get xs k ≡ Some z) ⊎ ((suc k ≡ suc (length xs)) × (y ≡ z))
    by (inl earlier) = inl earlier
    by (inr last) = inr (ap suc last.0, last.1)

-- what is at a place has the outcome of what was there
got_set : (rows : List Row) (k : ℕ) (before after : Row) → slice_get rows k ≡ Some before
    → after.outcome ≡ before.outcome → (j : ℕ) (z : Row)
    → slice_get (slice_set rows k after) j ≡ Some z
    → (x : Row) × ((slice_get rows j ≡ Some x) × (z.outcome ≡ x.outcome))
got_set [] k before after at kept j z h = absurd (none-some before at)
got_set (r ∷ rs) zero before after at kept zero z h = (
  r,
  (
    refl,
    ap (λ (x : Row). x.outcome) (sym (same_Some after z h)) ∙ kept
        ∙ ap (λ (x : Row). x.outcome) (sym (same_Some r before at)),
  ),
)
got_set (r ∷ rs) zero before after at kept (suc j) z h = (z, (h, refl))
got_set (r ∷ rs) (suc k) before after at kept zero z h = (z, (h, refl))
got_set (r ∷ rs) (suc k) before after at kept (suc j) z h =
    got_set rs k before after at kept j z h

-- the item at a place is in the list
got_in : {X : Type 0} (xs : List X) (k : ℕ) (x : X) → slice_get xs k ≡ Some x → Contains xs x
got_in xs k x h = (k, slice_get_within xs k x h, get_or_from_slice_get xs k x x h)

-- ---- what the code has found

-- a fact of the item at a place
pub some_at : {X : Type 0} (P : X → Type 0) (xs : List X) (k : ℕ) (x : X) → k < length xs
    → x ≡ get_or xs k x → P x → IsSomeAnd (slice_get xs k) P
some_at P xs k x lt is p =
    subst (λ (o : Option _). IsSomeAnd o P)
    (sym (slice_get-get_or xs k x lt ∙ ap Some (sym is))) p

pub some_and : {X : Type 0} (P : X → Type 0) (o : Option X) → IsSomeAnd o P
    → (x : X) × ((o ≡ Some x) × P x)
some_and P None h = absurd h
some_and P (Some x) h = (x, (refl, h))

pub placed : {X : Type 0} (xs : List X) (k : ℕ) (P : X → Type 0) → IsSomeAnd (slice_get xs k) P
    → k < length xs
placed xs k P h =
    let found = some_and P (slice_get xs k) h in slice_get_within xs k found.0 found.1.0

-- the row at the place of an outcome, with an order joined
pub joined_at : (old : List Row) (k : ℕ) (row seen held : Row) (both : Counted)
    → IsSomeAnd (slice_get old k) (λ (r : Row). r.outcome ≡ row.outcome)
    → seen ≡ get_or old k seen → held ≡ get_or old k held
    → both ≡ joined seen.counted row.counted
    → IsRowAdded old row (slice_set old k (record { counted = both; outcome = held.outcome }))
joined_at old k row seen held both there at_seen at_held is = inr (record {
  place = k;
  before = found.0;
  after = record { counted = both; outcome = held.outcome };
  at = found.1.0;
  same = found.1.1;
  kept = ap (λ (r : Row). r.outcome)
      (at_held ∙ get_or_from_slice_get old k found.0 held found.1.0);
  joined = subst (λ (b : Counted). IsJoined found.0.counted row.counted b) (sym sum)
      (joined_is found.0.counted row.counted);
  set = refl;
})
  where
    found : (x : Row) × ((slice_get old k ≡ Some x) × (x.outcome ≡ row.outcome))
    found = some_and (λ (r : Row). r.outcome ≡ row.outcome) (slice_get old k) there

    sum : both ≡ joined found.0.counted row.counted
    sum = is
        ∙ ap (λ (r : Row). joined r.counted row.counted)
        (at_seen ∙ get_or_from_slice_get old k found.0 seen found.1.0)

module _ (part : Part) where
  abbrev pub SameOutcome : List ℕ → List ℕ → Type 0
  SameOutcome a b = HaveOneOutcome (moved part.play) (outcome_at part.play) (begun part) a b

  -- the outcome after the order of a row is that of the row
  pub told : (row : Row) → HasOutcome part row
      → outcome_after (moved part.play) (outcome_at part.play) (begun part) row.counted.order
      ≡ Some row.outcome
  told row h = ap (option_map (outcome_at part.play)) h.1.0 ∙ ap Some (sym h.1.1)

  -- rows apart have no outcome in common
  pub distinct : (rows : List Row) → All (HasOutcome part) rows → AreApart rows
      → AreDistinct (moved part.play) (begun part) (outcome_at part.play) (counted_rows rows)
  distinct rows outcomes apart a b x y below at_x at_y same =
      let r = row_at a x at_x in
      let s = row_at b y at_y in
      apart a b r.0 s.0 below r.1.0 s.1.0
      (same_Some r.0.outcome s.0.outcome
      (sym (told r.0 (All-contains (HasOutcome part) rows r.0 outcomes (got_in rows a r.0 r.1.0)))
      ∙ ap (outcome_after (moved part.play) (outcome_at part.play) (begun part))
      (ap (λ (c : Counted). c.order) r.1.1) ∙ same
      ∙ ap (outcome_after (moved part.play) (outcome_at part.play) (begun part))
      (sym (ap (λ (c : Counted). c.order) s.1.1))
      ∙ told s.0 (All-contains (HasOutcome part) rows s.0 outcomes (got_in rows b s.0 s.1.0))))
    where
      row_by : (k : ℕ) (x : Counted) (o : Option Row) → slice_get rows k ≡ o
          → option_map (λ (r : Row). r.counted) o ≡ Some x
          → (r : Row) × ((slice_get rows k ≡ Some r) × (r.counted ≡ x))
      row_by k x None at is = absurd (none-some x is)
      row_by k x (Some r) at is = (r, (at, same_Some r.counted x is))

      row_at : (k : ℕ) (x : Counted) → slice_get (counted_rows rows) k ≡ Some x
          → (r : Row) × ((slice_get rows k ≡ Some r) × (r.counted ≡ x))
      row_at k x at = row_by k x (slice_get rows k) refl
          (sym (slice_get-map (λ (r : Row). r.counted) rows k) ∙ at)

  module _ (old : List Row) (row : Row) (outcomes : All (HasOutcome part) old)
      (has : HasOutcome part row) where
    -- ---- a row of its own

    pushed_added : IsAdded SameOutcome (counted_rows old) row.counted
        (counted_rows (old ++ row ∷ []))
    pushed_added =
        subst (λ (cs : List Counted). IsAdded SameOutcome (counted_rows old) row.counted cs)
        (sym (map-append (λ (r : Row). r.counted) old (row ∷ [])))
        (pushed SameOutcome (counted_rows old) row.counted (λ e inside. refl) refl)

    pushed_apart : HasNone old row.outcome → AreApart old → AreApart (old ++ row ∷ [])
    pushed_apart none apart a b x y below at_x at_y same =
        by (got_push old row a x at_x) (got_push old row b y at_y)
      where
        by : (slice_get old a ≡ Some x) ⊎ ((a ≡ length old) × (row ≡ x))
            → (slice_get old b ≡ Some y) ⊎ ((b ≡ length old) × (row ≡ y)) → ⊥
        by (inl p) (inl q) = apart a b x y below p q same
        by (inl p) (inr q) =
            All-contains (λ (r : Row). r.outcome ≡ row.outcome → ⊥) old x none (got_in old a x p)
            (same ∙ ap (λ (r : Row). r.outcome) (sym q.1))
        by (inr p) (inl q) =
            let within = slice_get_within old b y q in
            let at = p.0 in
            omega (arith, within, at, below)
        by (inr p) (inr q) =
            let at_a = p.0 in
            let at_b = q.0 in
            omega (arith, at_a, at_b, below)

    -- ---- the row of its outcome

    module _ (new : List Row) (j : IsJoinedTo old row new) where
      before_has : HasOutcome part j.before
      before_has = All-contains (HasOutcome part) old j.before outcomes
          (got_in old j.place j.before j.at)

      -- the two orders have one outcome
      one : SameOutcome j.before.counted.order row.counted.order
      one = told j.before before_has ∙ ap Some j.same ∙ sym (told row has)

      as_before : SameOutcome j.after.counted.order j.before.counted.order
      as_before = by j.joined.is
        where
          by : (j.after.counted.order ≡ j.before.counted.order)
              ⊎ (j.after.counted.order ≡ row.counted.order)
              → SameOutcome j.after.counted.order j.before.counted.order
          by (inl e) = ap (outcome_after (moved part.play) (outcome_at part.play) (begun part)) e
          by (inr e) = ap (outcome_after (moved part.play) (outcome_at part.play) (begun part)) e
              ∙ sym one

      joined_added : IsAdded SameOutcome (counted_rows old) row.counted (counted_rows new)
      joined_added =
          subst (λ (cs : List Counted). IsAdded SameOutcome (counted_rows old) row.counted cs)
          (sym (ap counted_rows j.set
          ∙ map-set (λ (r : Row). r.counted) old j.place j.after))
          (met SameOutcome (counted_rows old) j.place j.before.counted row.counted
          j.after.counted (slice_get-map (λ (r : Row). r.counted) old j.place
          ∙ ap (option_map (λ (r : Row). r.counted)) j.at) (λ e inside. refl) as_before
          (as_before ∙ one) j.joined)

      after_has : HasOutcome part j.after
      after_has = by j.joined.is
        where
          by : (j.after.counted.order ≡ j.before.counted.order)
              ⊎ (j.after.counted.order ≡ row.counted.order) → HasOutcome part j.after
          by (inl e) = (
            before_has.0,
            (ap (led_on part) e ∙ before_has.1.0, j.kept ∙ before_has.1.1),
          )
          by (inr e) = (
            has.0,
            (ap (led_on part) e ∙ has.1.0, j.kept ∙ j.same ∙ has.1.1),
          )

      joined_outcomes : All (HasOutcome part) new
      joined_outcomes = subst (λ (rs : List Row). All (HasOutcome part) rs) (sym j.set)
          (All-set (HasOutcome part) old j.place j.after after_has outcomes)

      joined_apart : AreApart old → AreApart new
      joined_apart apart a b x y below at_x at_y same =
          let p = got_set old j.place j.before j.after j.at j.kept a x
          (ap (λ (rs : List Row). slice_get rs a) (sym j.set) ∙ at_x) in
          let q = got_set old j.place j.before j.after j.at j.kept b y
          (ap (λ (rs : List Row). slice_get rs b) (sym j.set) ∙ at_y) in
          apart a b p.0 q.0 below p.1.0 q.1.0 (sym p.1.1 ∙ same ∙ q.1.1)

    -- ---- either

    pub row_added : (new : List Row) → IsRowAdded old row new
        → IsAdded SameOutcome (counted_rows old) row.counted (counted_rows new)
    row_added new (inl p) =
        subst (λ (rs : List Row). IsAdded SameOutcome (counted_rows old) row.counted
        (counted_rows rs)) (sym p.0) pushed_added
    row_added new (inr j) = joined_added new j

    pub row_outcomes : (new : List Row) → IsRowAdded old row new → All (HasOutcome part) new
    row_outcomes new (inl p) =
        subst (λ (rs : List Row). All (HasOutcome part) rs) (sym p.0)
        (All-push (HasOutcome part) old row outcomes has)
    row_outcomes new (inr j) = joined_outcomes new j

    pub row_apart : (new : List Row) → IsRowAdded old row new → AreApart old → AreApart new
    row_apart new (inl p) apart =
        subst (λ (rs : List Row). AreApart rs) (sym p.0) (pushed_apart p.1 apart)
    row_apart new (inr j) apart = joined_apart new j apart
