-- A turn leads a way on, and what is added to the ways of a layer is what a step of counting adds.
use Rattle.std.proofs.Common.{◌≡◌, ◌+◌, ◌<◌, ℕ, Bool, true, false, not, ◌&&◌, ◌||◌, All, Contains, List, [], ◌∷◌, ◌++◌, Option, Some, None, is_none, is_some, option_map, if◌then◌else◌, refl, ap, sym, subst, ◌∙◌, inl, inr, ◌⊎◌, add-one, append_assoc, arith}
use Rattle.std.proofs.lemmas.List.{append-nil, map-append, map-set}
use Rattle.std.proofs.lemmas.List.Elements.{All-contains, All-head, All-push, All-set, All-tail}
use Rattle.std.proofs.lemmas.Option.{get_or_from_slice_get, same_Some, slice_get-map, slice_get_within}
use Rattle.order_outcomes.proofs.Moving.{led_fits, start_fits}
use Rattle.order_outcomes.proofs.about_counts.Adding.{joined_is, met, pushed, spreads-more}
use Rattle.order_outcomes.proofs.about_counts.Spread.{in_cases, in_none, led-more}
use Rattle.order_outcomes.specs.alike.Alike.{IsAlike}
use Rattle.order_outcomes.specs.Orders.{moment_after, moved}
use Rattle.order_outcomes.specs.counts.Layers.{AddsIf, IsAdded, LeadAlike, Spreads, first_of, joined, root, with_turn}
use Rattle.order_outcomes.specs.counts.Orders.{rests}
use Rattle.order_outcomes.specs.counts.Rows.{Counted}
use Rattle.order_outcomes.specs.reports.model.Rounds.{numbers}
use Rattle.order_outcomes.specs.reports.model.Turns.{Moment, start_of}
use Rattle.order_outcomes.specs.Outcome.{outcome_of}
use Rattle.order_runs.specs.Points.{IsMoved, IsPointAt, IsPointOf}
use Rattle.order_runs.specs.Steps.{AreAdded, HasOutcome, IsMetAs, IsRoot, IsTurned, IsWayAdded, IsWayOf, begun, counted_ways, led_on, opening}
use Rattle.order_runs.specs.declared.part.Part.{Part}
use Rattle.order_runs.specs.declared.points.Point.{Point}
use Rattle.order_runs.specs.declared.rows.Row.{Row}
use Rattle.order_runs.specs.declared.ways.Way.{Way}

-- ---- the first turns

-- the way that ends with the first turns
pub kept_first : (part : Part) (way : Way) → way.counted ≡ root
    → IsPointOf part.play part.first.items way.point → IsRoot part way
kept_first part way is p = (
  is,
  record {
    at = begun part;
    leads = ap (λ (c : Counted). led_on part c.order) is;
    some = subst (λ (c : Counted). 0 < c.count) (sym is) (omega arith);
    turns = p.0 ∙ sym (append-nil part.first.items)
        ∙ ap (λ (c : Counted). part.first.items ++ c.order) (sym is);
    point = subst (λ (m : Moment). IsPointAt part.play m way.point) (sym there) p.1.1;
  },
)
  where
    there : begun part ≡ p.1.0
    there = (led_fits part.play part.first.items (start_of part.play) p.1.0 (start_fits part.play)
        (ap (moment_after part.play) (sym p.0) ∙ p.1.1.leads)).1

-- each of the first turns moves its task
pub opens : (part : Part) (way : Way) → IsRoot part way → opening part ≡ Some (begun part)
opens part way r =
    ap (moment_after part.play) (sym (r.1.turns
    ∙ ap (λ (c : Counted). part.first.items ++ c.order) r.0 ∙ append-nil part.first.items))
    ∙ r.1.point.leads ∙ sym r.1.leads ∙ ap (λ (c : Counted). led_on part c.order) r.0

-- ---- one turn more

-- the outcome of what is seen of a way is that of its moment
pub outcome_there : (part : Part) (way : Way) → IsWayOf part way → (row : Row)
    → row.counted ≡ way.counted → row.outcome ≡ outcome_of way.point.sight.ended
    → HasOutcome part row
outcome_there part way k row same told = (
  k.at,
  (
    ap (λ (c : Counted). led_on part c.order) same ∙ k.leads,
    told ∙ ap outcome_of k.point.sight.left,
  ),
)

module _ (part : Part) (way : Way) (k : IsWayOf part way) (n : ℕ) where
  -- what holds at the moment of the way holds at each to which it leads
  at_moment : (r : Option Way) (m : Moment) → led_on part way.counted.order ≡ Some m
      → IsTurned part way n (moved part.play k.at n) r
      → IsTurned part way n (moved part.play m n) r
  at_moment r m leads h =
      subst (λ (x : Moment). IsTurned part way n (moved part.play x n) r)
      (same_Some k.at m (sym k.leads ∙ leads)) h

  -- the turn leads to no point: there is no way on
  pub longer_none : IsMoved part.play way.point n (moved part.play k.at n) None → (m : Moment)
      → led_on part way.counted.order ≡ Some m → IsTurned part way n (moved part.play m n) None
  longer_none h m leads = at_moment None m leads (by (moved part.play k.at n) h)
    where
      by : (o : Option Moment) → IsMoved part.play way.point n o None → IsTurned part way n o None
      by None x = tt
      by (Some y) x = absurd x

  -- it leads on to a point: there is a way on
  pub longer_some : (point : Point)
      → IsMoved part.play way.point n (moved part.play k.at n) (Some point) → (longer : Way)
      → longer.counted ≡ with_turn way.counted n → longer.point ≡ point → (m : Moment)
      → led_on part way.counted.order ≡ Some m
      → IsTurned part way n (moved part.play m n) (Some longer)
  longer_some point h longer counted same m leads =
      at_moment (Some longer) m leads (by (moved part.play k.at n) refl h)
    where
      by : (o : Option Moment) → moved part.play k.at n ≡ o
          → IsMoved part.play way.point n o (Some point) → IsTurned part way n o (Some longer)
      by None is x = absurd x
      by (Some y) is x = (
        counted,
        record {
          at = y;
          leads = ap (λ (c : Counted). led_on part c.order) counted
              ∙ led-more (moved part.play) (Some (begun part)) way.counted.order n k.at k.leads
              ∙ is;
          some = subst (λ (c : Counted). 0 < c.count) (sym counted) k.some;
          turns = ap (λ (q : Point). q.turns) same ∙ x.0
              ∙ ap (λ (l : List ℕ). l ++ n ∷ []) k.turns
              ∙ append_assoc part.first.items way.counted.order (n ∷ [])
              ∙ ap (λ (c : Counted). part.first.items ++ c.order) (sym counted);
          point = subst (λ (q : Point). IsPointAt part.play y q) (sym same) x.1;
        },
      )

-- ---- what is added to the next layer

module _ (part : Part) where
  abbrev pub Same : List ℕ → List ℕ → Type 0
  Same a b = LeadAlike (moved part.play) (IsAlike part.play) (begun part) a b

  kept_itself : (w : Way) → IsWayOf part w → Same w.counted.order w.counted.order
  kept_itself w k = (k.at, (k.at, (k.leads, (k.leads, inl refl))))

  all_itself : (ws : List Way) → All (IsWayOf part) ws → (e : Counted)
      → Contains (counted_ways ws) e → Same e.order e.order
  all_itself [] kept e inside = absurd (in_none e inside)
  all_itself (w ∷ ws) kept e inside =
      by (in_cases w.counted (counted_ways ws) e inside)
      (all_itself ws (All-tail (IsWayOf part) w ws kept) e)
    where
      by : (w.counted ≡ e) ⊎ Contains (counted_ways ws) e
          → (Contains (counted_ways ws) e → Same e.order e.order) → Same e.order e.order
      by (inl is) rest = subst (λ (c : Counted). Same c.order c.order) is
          (kept_itself w (All-head (IsWayOf part) w ws kept))
      by (inr later) rest = rest later

  -- a way that is pushed
  adds_way : (old : List Way) → All (IsWayOf part) old → (w : Way) → IsWayOf part w
      → IsAdded Same (counted_ways old) w.counted (counted_ways (old ++ w ∷ []))
  adds_way old kept w k =
      subst (λ (cs : List Counted). IsAdded Same (counted_ways old) w.counted cs)
      (sym (map-append (λ (x : Way). x.counted) old (w ∷ [])))
      (pushed Same (counted_ways old) w.counted (all_itself old kept) (kept_itself w k))

  -- the way as which another is met, with the counts of both
  module _ (old : List Way) (kept : All (IsWayOf part) old) (w : Way) (k : IsWayOf part w)
      (new : List Way) (h : IsMetAs old w new) where
    abbrev merged : Way
    merged = record h.before { counted = joined h.before.counted w.counted }

    before_kept : IsWayOf part h.before
    before_kept = All-contains (IsWayOf part) old h.before kept (
      h.place,
      slice_get_within old h.place h.before h.at,
      get_or_from_slice_get old h.place h.before h.before h.at,
    )

    same_order : first_of h.before.counted.order w.counted.order ≡ h.before.counted.order
    same_order = ap (λ (b : Bool). if b then w.counted.order else h.before.counted.order)
        h.meets.first

    as_before : Same merged.counted.order h.before.counted.order
    as_before = subst (λ (o : List ℕ). Same o h.before.counted.order) (sym same_order)
        (kept_itself h.before before_kept)

    as_way : Same merged.counted.order w.counted.order
    as_way = subst (λ (o : List ℕ). Same o w.counted.order) (sym same_order) (
      before_kept.at,
      (
        k.at,
        (
          before_kept.leads,
          (
            k.leads,
            h.meets.alike part.play before_kept.at k.at before_kept.point.sight
                k.point.sight,
          ),
        ),
      ),
    )

    met_added : IsAdded Same (counted_ways old) w.counted (counted_ways new)
    met_added =
        subst (λ (cs : List Counted). IsAdded Same (counted_ways old) w.counted cs)
        (sym (ap counted_ways h.set ∙ map-set (λ (x : Way). x.counted) old h.place merged))
        (met Same (counted_ways old) h.place h.before.counted w.counted merged.counted
        (slice_get-map (λ (x : Way). x.counted) old h.place
        ∙ ap (option_map (λ (x : Way). x.counted)) h.at) (all_itself old kept) as_before as_way
        (joined_is h.before.counted w.counted))

    merged_kept : IsWayOf part merged
    merged_kept = record {
      at = before_kept.at;
      leads = ap (led_on part) same_order ∙ before_kept.leads;
      some = let some = before_kept.some in omega (arith, some);
      turns = before_kept.turns
          ∙ ap (λ (o : List ℕ). part.first.items ++ o) (sym same_order);
      point = before_kept.point;
    }

    met_kept : All (IsWayOf part) new
    met_kept = subst (λ (ws : List Way). All (IsWayOf part) ws) (sym h.set)
        (All-set (IsWayOf part) old h.place merged merged_kept kept)

  way_adds : (old : List Way) → All (IsWayOf part) old → (w : Way) → IsWayOf part w
      → (new : List Way) → IsWayAdded old w new
      → IsAdded Same (counted_ways old) w.counted (counted_ways new)
  way_adds old kept w k new (inl is) =
      subst (λ (ws : List Way). IsAdded Same (counted_ways old) w.counted (counted_ways ws))
      (sym is) (adds_way old kept w k)
  way_adds old kept w k new (inr h) = met_added old kept w k new h

  way_kept : (old : List Way) → All (IsWayOf part) old → (w : Way) → IsWayOf part w
      → (new : List Way) → IsWayAdded old w new → All (IsWayOf part) new
  way_kept old kept w k new (inl is) =
      subst (λ (ws : List Way). All (IsWayOf part) ws) (sym is)
      (All-push (IsWayOf part) old w kept k)
  way_kept old kept w k new (inr h) = met_kept old kept w k new h

  -- what a turn adds
  turn_adds : (way : Way) (n : ℕ) (o : Option Moment) (r : Option Way)
      → IsTurned part way n o r → (old new : List Way) → All (IsWayOf part) old
      → AreAdded old r new
      → AddsIf Same o (counted_ways old) (with_turn way.counted n) (counted_ways new)
  turn_adds way n None None t old new kept a = ap counted_ways a
  turn_adds way n None (Some w) t old new kept a = absurd t
  turn_adds way n (Some m) None t old new kept a = absurd t
  turn_adds way n (Some m) (Some w) t old new kept a =
      subst (λ (c : Counted). IsAdded Same (counted_ways old) c (counted_ways new))
      t.0 (way_adds old kept w t.1 new a)

  -- the ways are kept with the longer one
  pub with_kept : (way : Way) (n : ℕ) (o : Option Moment) (r : Option Way)
      → IsTurned part way n o r → (old new : List Way) → AreAdded old r new
      → All (IsWayOf part) old → All (IsWayOf part) new
  with_kept way n None None t old new a kept =
      subst (λ (ws : List Way). All (IsWayOf part) ws) (sym a) kept
  with_kept way n None (Some w) t old new a kept = absurd t
  with_kept way n (Some m) None t old new a kept = absurd t
  with_kept way n (Some m) (Some w) t old new a kept = way_kept old kept w t.1 new a

  -- the task rests exactly if there is no longer way
  turn_rests : (way : Way) (n : ℕ) (o : Option Moment) (r : Option Way)
      → IsTurned part way n o r → is_some r ≡ not (is_none o)
  turn_rests way n None None t = refl
  turn_rests way n None (Some w) t = absurd t
  turn_rests way n (Some m) None t = absurd t
  turn_rests way n (Some m) (Some w) t = refl

  -- one task more
  not_both : (a b : Bool) → (not a || not b) ≡ not (a && b)
  not_both true b = refl
  not_both false b = refl

  rests-append : (ns : List ℕ) (n : ℕ) (m : Moment)
      → rests (moved part.play) (ns ++ n ∷ []) m
      ≡ (rests (moved part.play) ns m && is_none (moved part.play m n))
  rests-append [] n m = by (is_none (moved part.play m n))
    where
      by : (b : Bool) → (b && true) ≡ (true && b)
      by true = refl
      by false = refl
  rests-append (k ∷ ks) n m =
      ap (λ b. is_none (moved part.play m k) && b) (rests-append ks n m)
      ∙ by (is_none (moved part.play m k)) (rests (moved part.play) ks m)
      (is_none (moved part.play m n))
    where
      by : (a b c : Bool) → (a && (b && c)) ≡ ((a && b) && c)
      by true b c = refl
      by false b c = refl

  module _ (way : Way) (n : ℕ) (m : Moment) (r : Option Way)
      (t : IsTurned part way n (moved part.play m n) r) where
    pub rests_more : (any : Bool) → any ≡ not (rests (moved part.play) (numbers n) m)
        → (any || is_some r) ≡ not (rests (moved part.play) (numbers (n + 1)) m)
    rests_more any h =
        (λ i. h i || turn_rests way n (moved part.play m n) r t i)
        ∙ not_both (rests (moved part.play) (numbers n) m) (is_none (moved part.play m n))
        ∙ ap not (sym (rests-append (numbers n) n m))
        ∙ ap (λ j. not (rests (moved part.play) (numbers j) m)) (sym (add-one n))

    pub spreads_more : (old mid new : List Way) → All (IsWayOf part) mid → AreAdded mid r new
        → Spreads (moved part.play) (IsAlike part.play) (begun part) m way.counted (numbers n)
        (counted_ways old) (counted_ways mid)
        → Spreads (moved part.play) (IsAlike part.play) (begun part) m way.counted (numbers (n + 1))
        (counted_ways old) (counted_ways new)
    spreads_more old mid new kept a h =
        subst (λ (ns : List ℕ). Spreads (moved part.play) (IsAlike part.play) (begun part) m
        way.counted ns
        (counted_ways old) (counted_ways new)) (ap numbers (sym (add-one n)))
        (spreads-more (moved part.play) (begun part) (IsAlike part.play) m way.counted (numbers n) n
        (counted_ways old) (counted_ways mid) (counted_ways new) h
        (turn_adds way n (moved part.play m n) r t mid new kept a))
