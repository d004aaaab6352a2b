-- Why counting stops.
use Rattle.std.proofs.Common.{◌≡◌, ◌==◌, ◌⊎◌, ℕ, zero, suc, ◌+◌, ◌*◌, ◌^◌, ◌<◌, ◌≤◌, Bool, false, All, Contains, List, [], ◌∷◌, ◌++◌, drop, get_or, length, take, Option, Some, None, slice_get, refl, ap, sym, subst, ◌∙◌, arith, inl, inr}
use Rattle.std.specs.Prelude.{IfErr, IsErrAnd, IsSomeAnd, Result, Ok, Err}
use Rattle.std.proofs.lemmas.Bool.{true≢false}
use Rattle.std.proofs.lemmas.List.{drop_more, length-map, map-append}
use Rattle.std.proofs.lemmas.List.Elements.{All-head, All-nil, All-tail, Contains-append_right}
use Rattle.std.proofs.lemmas.Option.{get_or_from_slice_get, none-some, same_Some}
use Rattle.order_outcomes.specs.alike.Alike.{IsAlike}
use Rattle.order_outcomes.proofs.about_counts.Spread.{first_in, in_cases, in_none, on, passed}
use Rattle.order_outcomes.specs.Orders.{moment_after, moved, outcome_at}
use Rattle.order_outcomes.specs.counts.Layers.{AreAlike, IsWay, root, ways}
use Rattle.order_outcomes.specs.counts.Orders.{led, rests}
use Rattle.order_outcomes.specs.counts.Rows.{Counted, weighed}
use Rattle.order_outcomes.specs.reports.model.Rounds.{all_tasks}
use Rattle.order_outcomes.specs.reports.model.Scene.{Scene}
use Rattle.order_outcomes.specs.reports.model.Turns.{Moment}
use Rattle.order_outcomes.specs.scripts.Limits.{most_turns}
use Rattle.order_runs.specs.Steps.{HasOutcomeFrom, IsLayer, IsSpread, IsStep, IsWayOf, begun, counted_rows, counted_ways, led_on, opening}
use Rattle.order_runs.specs.Stops.{BeginsOverrun, HasLongWay, HasManyOrders, HasTooMany, HasTooManyFrom, IsCrowded, IsOverrun, counts_of, orders_from, ways_from}
use Rattle.order_runs.specs.Tables.{IsTable, IsTableFrom}
use Rattle.order_runs.specs.declared.part.Part.{Part}
use Rattle.order_runs.specs.declared.rows.Row.{Row}
use Rattle.order_runs.specs.declared.rows.Stopped.{Stopped}
use Rattle.order_runs.specs.declared.rows.Stopped.TheVariants as stopped
use Rattle.order_runs.specs.declared.ways.Way.{Way}
use Rattle.order_runs.proofs.Alikeness.{alike_from}
use Rattle.order_runs.proofs.Layering.{if_not, layer_next}
use Rattle.order_runs.proofs.Rowing.{some_and}
use Rattle.order_runs.proofs.Within.{AllLead, IsMet, met_first, met_next, met_within, part_orders, part_within, rows_within}

-- ---- an order that can't be counted in its row

-- the count of a row is among those of all
counts_at : (rows : List Row) (k : ℕ) (x : Row) → slice_get rows k ≡ Some x
    → x.counted.count ≤ counts_of (counted_rows rows)
counts_at [] k x h = absurd (none-some x h)
counts_at (r ∷ rs) zero x h =
    let same = ap (λ (y : Row). y.counted.count) (same_Some r x h) in
    let whole : counts_of (counted_rows (r ∷ rs))
    ≡ r.counted.count * 1 + counts_of (counted_rows rs) = refl in
    omega (arith, same, whole)
counts_at (r ∷ rs) (suc k) x h =
    let rest = counts_at rs k x h in
    let whole : counts_of (counted_rows (r ∷ rs))
    ≡ r.counted.count * 1 + counts_of (counted_rows rs) = refl in
    omega (arith, rest, whole)

pub overflown : (old : List Row) (k : ℕ) (row seen : Row)
    → IsSomeAnd (slice_get old k) (λ (r : Row). r.outcome ≡ row.outcome)
    → seen ≡ get_or old k seen → 2 ^ 128 ≤ seen.counted.count + row.counted.count
    → 2 ^ 128 ≤ counts_of (counted_rows old) + row.counted.count
overflown old k row seen there at_seen many =
    let found = some_and (λ (r : Row). r.outcome ≡ row.outcome) (slice_get old k) there in
    let same = ap (λ (r : Row). r.counted.count)
    (at_seen ∙ get_or_from_slice_get old k found.0 seen found.1.0) in
    let at = counts_at old k found.0 found.1.0 in
    omega (arith, same, at, many)

-- a number that isn't 0 is above it
pub nonzero : (n : ℕ) → (n == 0) ≡ false → 0 < n
nonzero zero h = absurd (true≢false h)
nonzero (suc n) h = omega arith

-- a cause that is passed on
pub told : {A : Type 0} (P Q : Type 0) (x : Stopped) (r : Result A Stopped)
    → (x ≡ stopped.TooMany → P) → (P → Q) → IsErrAnd r (λ y. y ≡ x)
    → IfErr r (λ why. why ≡ stopped.TooMany → Q)
told P Q x (Ok a) p q given = tt
told P Q x (Err y) p q given = λ is. q (p (sym given ∙ is))

-- after k turns, not more moments have been met than may be
pub record IsCounting (part : Part) (most k : ℕ) (layer : List Way) (rows : List Row) (room : ℕ)
    : Type 0 where
  pub at : IsLayer part k layer rows
  pub met : ℕ
  pub is_met : IsMet (moved part.play) (all_tasks part.play) (begun part) k (counted_ways layer)
      met
  pub fits : most ≤ room + met
  pub some : 0 < length layer

-- the orders of rows lead to moments
rows_lead : (scene : Scene) (from : Moment) (rs : List Row)
    → All (HasOutcomeFrom scene (Some from)) rs
    → AllLead (moved scene) (all_tasks scene) from (counted_rows rs)
rows_lead scene from [] has c inside = absurd (in_none c inside)
rows_lead scene from (r ∷ rs) has c inside =
    by (in_cases r.counted (counted_rows rs) c inside)
    (rows_lead scene from rs (All-tail (HasOutcomeFrom scene (Some from)) r rs has) c)
  where
    here : HasOutcomeFrom scene (Some from) r
    here = All-head (HasOutcomeFrom scene (Some from)) r rs has

    by : (r.counted ≡ c) ⊎ Contains (counted_rows rs) c
        → (Contains (counted_rows rs) c
        → (m : Moment) × (led (moved scene) (Some from) c.order ≡ Some m))
        → (m : Moment) × (led (moved scene) (Some from) c.order ≡ Some m)
    by (inl is) rest =
        (here.0, ap (λ (x : Counted). led (moved scene) (Some from) x.order) (sym is) ∙ here.1.0)
    by (inr later) rest = rest later

module _ (part : Part) where
  abbrev begins : Option Moment
  begins = Some (begun part)

  abbrev Leads : List Counted → Type 0
  Leads cs = AllLead (moved part.play) (all_tasks part.play) (begun part) cs

  abbrev alike : AreAlike (moved part.play) (all_tasks part.play) (begun part)
      (outcome_at part.play)
      (IsAlike part.play)
  alike = alike_from part.play (begun part)

  -- ---- ways and rows

  kept_lead : (ws : List Way) → All (IsWayOf part) ws → Leads (counted_ways ws)
  kept_lead [] kept c inside = absurd (in_none c inside)
  kept_lead (w ∷ ws) kept c inside =
      by (in_cases w.counted (counted_ways ws) c inside)
      (kept_lead ws (All-tail (IsWayOf part) w ws kept) c)
    where
      here : IsWayOf part w
      here = All-head (IsWayOf part) w ws kept

      by : (w.counted ≡ c) ⊎ Contains (counted_ways ws) c
          → (Contains (counted_ways ws) c
          → (m : Moment) × (led_on part c.order ≡ Some m))
          → (m : Moment) × (led_on part c.order ≡ Some m)
      by (inl is) rest =
          (here.at, ap (λ (x : Counted). led_on part x.order) (sym is) ∙ here.leads)
      by (inr later) rest = rest later

  -- each way counts at least 1
  kept_count : (ws : List Way) → All (IsWayOf part) ws
      → length ws ≤ counts_of (counted_ways ws)
  kept_count [] kept = omega arith
  kept_count (w ∷ ws) kept =
      let here : IsWayOf part w = All-head (IsWayOf part) w ws kept in
      let some = here.some in
      let rest = kept_count ws (All-tail (IsWayOf part) w ws kept) in
      let whole : counts_of (counted_ways (w ∷ ws))
      ≡ w.counted.count * 1 + counts_of (counted_ways ws) = refl in
      omega (arith, some, rest, whole)

  -- ---- from layer to layer

  pub counting_first : (most : ℕ) (layer : List Way) → IsLayer part 0 layer []
      → counted_ways layer ≡ root ∷ [] → IsCounting part most 0 layer [] most
  counting_first most layer at is = record {
    at = at;
    met = 0;
    is_met = subst (λ (cs : List Counted).
        IsMet (moved part.play) (all_tasks part.play) (begun part) 0 cs 0) (sym is)
        (met_first (moved part.play) (all_tasks part.play) (begun part));
    fits = omega arith;
    some =
        let long = length-map layer (λ (w : Way). w.counted) in
        let one : length (counted_ways layer) ≡ 1 = ap length is in
        omega (arith, long, one);
  }

  module _ (most k : ℕ) (layer : List Way) (rows : List Row) (before : ℕ)
      (c : IsCounting part most k layer rows before) where
    -- the ways of the layer are more than may be met
    pub too_wide : before < length layer → HasTooManyFrom part.play begins part.first.items most
    too_wide wide =
        let all : c.met + counts_of (counted_ways layer) ≤ length (ways_from part.play begins k)
        = met_within (moved part.play) (all_tasks part.play) (begun part) k (counted_ways layer)
        c.met
        c.is_met (kept_lead layer c.at.kept) in
        let count = kept_count layer c.at.kept in
        let fits = c.fits in
        inl (k, omega (arith, all, count, fits, wide))

    -- the ways of the layer have, with the first turns, as many as a schedule may have
    long_of : (ws : List Way)
        → ((x : Counted) → Contains (counted_ways ws) x
        → IsWay (moved part.play) (all_tasks part.play) (begun part) k x.order)
        → 0 < length ws → length part.first.items + k ≡ most_turns → HasLongWay part.play begins
        part.first.items
    long_of [] long some full = absurd (omega (arith, some))
    long_of (w ∷ ws) long some full =
        let way = long w.counted (first_in w.counted (counted_ways ws)) in
        let long = way.long in
        (w.counted.order, (omega (arith, long, full), (way.at, way.leads)))

    pub too_long : length part.first.items + k ≡ most_turns
        → HasTooManyFrom part.play begins part.first.items most
    too_long full = inr (inl (long_of layer c.at.stands.ways_in c.some full))

    module _ (room : ℕ) (left : before ≡ room + length layer) where
      pub counting_next : (next : List Way) (rows' : List Row) → IsStep part layer rows next rows'
          → 0 < length next → IsCounting part most (k + 1) next rows' room
      counting_next next rows' s some = record {
        at = layer_next part k layer rows next rows' c.at s;
        met = c.met + counts_of (counted_ways layer);
        is_met = met_next (moved part.play) (all_tasks part.play) (begun part)
            (outcome_at part.play)
            (IsAlike part.play) alike k (counted_ways layer) (counted_rows rows) (counted_ways next)
            (counted_rows rows') c.met c.is_met (s.advances c.at.outcomes);
        fits =
            let count = kept_count layer c.at.kept in
            let fits = c.fits in
            omega (arith, count, fits, left);
        some = some;
      }

      module _ (x : IsCrowded part layer rows room) where
        parts : (back : List Way) → x.back ≡ back
            → counted_ways layer ≡ counted_ways x.front ++ counted_ways back
        parts back is =
            ap counted_ways (x.parts ∙ ap (λ (b : List Way). x.front ++ b) is)
            ∙ map-append (λ (w : Way). w.counted) x.front back

        -- more ways go on from the first of the layer than may be met
        more_ways : room < length x.next → HasTooManyFrom part.play begins part.first.items most
        more_ways wide =
            let split = parts x.back refl in
            let leads : Leads (counted_ways x.front ++ counted_ways x.back)
            = subst Leads split (kept_lead layer c.at.kept) in
            let all : c.met + counts_of (counted_ways x.front ++ counted_ways x.back)
            + counts_of (counted_ways x.next) ≤ length (ways_from part.play begins (k + 1))
            = part_within (moved part.play) (all_tasks part.play) (begun part)
            (outcome_at part.play)
            (IsAlike part.play) alike k (counted_ways x.front) (counted_ways x.back)
            (counted_rows rows)
            (counted_ways x.next) (counted_rows x.mid) c.met
            (subst (λ (cs : List Counted).
            IsMet (moved part.play) (all_tasks part.play) (begun part) k cs c.met) split c.is_met)
            (λ d inside. leads d
            (Contains-append_right (counted_ways x.front) (counted_ways x.back) d inside))
            (kept_lead x.next x.step.kept) (x.step.advances c.at.outcomes) in
            let one = kept_count layer c.at.kept in
            let two = kept_count x.next x.step.kept in
            let same = ap counts_of split in
            let fits = c.fits in
            inl (k + 1, omega (arith, all, one, two, same, fits, left, wide))

        -- an order can't be counted
        more_orders : BeginsOverrun part x.back x.mid → HasTooManyFrom part.play begins
            part.first.items most
        more_orders b =
            let o : IsOverrun part b.0 x.mid = b.1.1.1 in
            let many = o.many in
            let all : counts_of (counted_rows x.mid) + b.0.counted.count
            ≤ length (orders_from part.play begins (k + 1))
            = part_orders (moved part.play) (all_tasks part.play) (begun part)
            (outcome_at part.play)
            (IsAlike part.play) alike k (counted_ways x.front) (counted_ways b.1.0)
            (counted_rows rows)
            (counted_ways x.next) (counted_rows x.mid) b.0.counted o.at
            (subst (λ (cs : List Counted). (test : List ℕ → Bool) (r : ℕ)
            → ways (moved part.play) (all_tasks part.play) (outcome_at part.play) test (k + r)
            (Some (begun part))
            ≡ weighed (passed (moved part.play) (all_tasks part.play) (begun part)
            (outcome_at part.play)
            (IsAlike part.play) alike test) (counted_rows rows)
            + weighed (on (moved part.play) (all_tasks part.play) (begun part)
            (outcome_at part.play)
            (IsAlike part.play) alike test r) cs) (parts (b.0 ∷ b.1.0) b.1.1.0) c.at.stands.counts)
            (x.step.advances c.at.outcomes) (rows_lead part.play (begun part) x.mid
            (x.step.outcomes c.at.outcomes))
            o.leads o.ends in
            inr (inr (k + 1, omega (arith, many, all)))

        by_cause : (room < length x.next) ⊎ BeginsOverrun part x.back x.mid
            → HasTooManyFrom part.play begins part.first.items most
        by_cause (inl wide) = more_ways wide
        by_cause (inr over) = more_orders over

        crowded : HasTooManyFrom part.play begins part.first.items most
        crowded = by_cause x.why

  -- the cause of the step, over ways that are those of the layer
  pub crowds : (most k : ℕ) (layer ways : List Way) (rows : List Row) (before room : ℕ)
      → IsCounting part most k layer rows before → IsCrowded part ways rows room
      → ways ≡ layer → before ≡ room + length layer → HasTooManyFrom part.play begins
      part.first.items most
  crowds most k layer ways rows before room c x same left =
      crowded most k layer rows before c room left
      (subst (λ (ws : List Way). IsCrowded part ws rows room) same x)

  -- ---- what has stopped a step

  pub overruns : (way : Way) (kept : IsWayOf part way) (next next' : List Way) (any : Bool)
      → ((m : Moment) → led_on part way.counted.order ≡ Some m
      → IsSpread part way m next next' any) → any ≡ false → (rows : List Row) (row : Row)
      → row.counted ≡ way.counted
      → 2 ^ 128 ≤ counts_of (counted_rows rows) + row.counted.count → IsOverrun part way rows
  overruns way kept next next' any spread is rows row same many = record {
    at = kept.at;
    leads = kept.leads;
    ends = if_not any (rests (moved part.play) (all_tasks part.play) kept.at)
        (spread kept.at kept.leads).none is;
    many =
        let count = ap (λ (c : Counted). c.count) same in
        omega (arith, many, count);
  }

  -- the first ways of a layer and the others
  split : (ws : List Way) (i : ℕ) → ws ≡ take i ws ++ drop i ws
  split [] zero = refl
  split [] (suc i) = refl
  split (w ∷ ws) zero = refl
  split (w ∷ ws) (suc i) = ap (λ (l : List Way). w ∷ l) (split ws i)

  pub wide : (layer : List Way) (i : ℕ) (rows : List Row) (room : ℕ) (next : List Way)
      (mid : List Row) → IsStep part (take i layer) rows next mid → room < length next
      → IsCrowded part layer rows room
  wide layer i rows room next mid s lt = record {
    front = take i layer;
    back = drop i layer;
    parts = split layer i;
    next = next;
    mid = mid;
    step = s;
    why = inl lt;
  }

  pub overrun : (layer : List Way) (i : ℕ) (way : Way) (rows : List Row) (room : ℕ)
      (next : List Way) (mid : List Row) → i < length layer → way ≡ get_or layer i way
      → IsStep part (take i layer) rows next mid → IsOverrun part way mid
      → IsCrowded part layer rows room
  overrun layer i way rows room next mid lt is s o = record {
    front = take i layer;
    back = drop i layer;
    parts = split layer i;
    next = next;
    mid = mid;
    step = s;
    why = inr (
      way,
      (
        drop (i + 1) layer,
        (
          drop_more layer i way lt
              ∙ ap (λ (w : Way). w ∷ drop (i + 1) layer) (sym is),
          o,
        ),
      ),
    );
  }

-- ---- the number of all orders

-- the rows from a moment have no more orders than there are
many_from : (scene : Scene) (from : Moment) (rows : List Row)
    → IsTableFrom scene (Some from) rows → 2 ^ 128 ≤ counts_of (counted_rows rows)
    → HasManyOrders scene (Some from)
many_from scene from rows t many =
    let r = rows_within (moved scene) (all_tasks scene) from (outcome_at scene) (IsAlike scene)
    (alike_from scene from) (counted_rows rows) (rows_lead scene from rows t.outcomes) t.rows_of in
    let all = r.1 in
    (r.0, omega (arith, many, all))

many_by : (scene : Scene) (from : Option Moment) (rows : List Row) → IsTableFrom scene from rows
    → 2 ^ 128 ≤ counts_of (counted_rows rows) → HasManyOrders scene from
many_by scene None rows t many =
    let none : counts_of (counted_rows rows) ≡ 0 = ap counts_of t.rows_of in
    absurd (omega (arith, none, many))
many_by scene (Some from) rows t many = many_from scene from rows t many

pub many_orders : (scene : Scene) (first : List ℕ) (rows : List Row) → IsTable scene first rows
    → 2 ^ 128 ≤ counts_of (counted_rows rows) → HasManyOrders scene (moment_after scene first)
many_orders scene first rows t many = many_by scene (moment_after scene first) rows t many

-- ---- the first turns

-- if one of the first turns doesn't move its task, there is no order, and no row
pub no_rows : (scene : Scene) (first : List ℕ) → moment_after scene first ≡ None
    → IsTable scene first []
no_rows scene first none =
    subst (λ (from : Option Moment). IsTableFrom scene from []) (sym none) (record {
      rows_of = refl;
      outcomes = All-nil (HasOutcomeFrom scene None);
      apart = λ a b x y below at_x at_y same. none-some x at_x;
    })

-- if each of them does, the rows from the moment after them are those of the part
pub table_is : (part : Part) (rows : List Row) → opening part ≡ Some (begun part)
    → IsTableFrom part.play (Some (begun part)) rows → IsTable part.play part.first.items rows
table_is part rows some t =
    subst (λ (from : Option Moment). IsTableFrom part.play from rows) (sym some) t

pub too_many_is : (part : Part) (most : ℕ) → opening part ≡ Some (begun part)
    → HasTooManyFrom part.play (Some (begun part)) part.first.items most
    → HasTooMany part.play part.first.items most
too_many_is part most some h =
    subst (λ (from : Option Moment). HasTooManyFrom part.play from part.first.items most)
    (sym some) h
