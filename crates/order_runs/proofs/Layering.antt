-- From one layer to the next, and from the last to the rows.
use Rattle.std.proofs.Common.{◌≡◌, ◌+◌, ◌<◌, ℕ, Bool, true, false, not, All, Contains, List, [], ◌∷◌, ◌++◌, length, get_or, take, Some, refl, ap, sym, subst, ◌∙◌, arith, add-one, length-append}
use Rattle.std.proofs.lemmas.Bool.{true≢false}
use Rattle.std.proofs.lemmas.List.{map-append, take_more}
use Rattle.std.proofs.lemmas.List.Elements.{All-cons, All-head, All-nil, All-tail}
use Rattle.std.proofs.lemmas.Option.{none-some}
use Rattle.order_outcomes.specs.alike.Alike.{IsAlike}
use Rattle.order_outcomes.proofs.about_counts.Adding.{advance-more}
use Rattle.order_outcomes.proofs.about_counts.Spread.{first_in, later_in}
use Rattle.order_outcomes.proofs.about_counts.Whole.{begins, ends, step}
use Rattle.order_outcomes.specs.Orders.{moved, outcome_at}
use Rattle.order_outcomes.specs.counts.Layers.{AllAdvance, EndsIf, StandsAt}
use Rattle.order_outcomes.specs.counts.Orders.{rests}
use Rattle.order_outcomes.specs.counts.Rows.{Counted}
use Rattle.order_outcomes.specs.reports.model.Rounds.{all_tasks}
use Rattle.order_outcomes.specs.reports.model.Turns.{Moment}
use Rattle.order_outcomes.specs.scripts.Limits.{most_turns}
use Rattle.order_runs.specs.Steps.{HasOutcome, IsAdvanced, IsLayer, IsRoot, IsRowAdded, IsSpread, IsStep, IsWayOf, begun, counted_rows, counted_ways, led_on}
use Rattle.order_runs.specs.Tables.{IsTableFrom}
use Rattle.order_runs.specs.declared.part.Part.{Part}
use Rattle.order_runs.specs.declared.rows.Row.{Row}
use Rattle.order_runs.specs.declared.ways.Way.{Way}
use Rattle.order_runs.proofs.Alikeness.{alike_from}
use Rattle.order_runs.proofs.Rowing.{SameOutcome, distinct, row_added, row_apart, row_outcomes}

-- ---- one way

-- what isn't true is false
unless : (a b : Bool) → a ≡ not b → a ≡ true → b ≡ false
unless a true h is = absurd (true≢false (sym is ∙ h))
unless a false h is = refl

pub if_not : (a b : Bool) → a ≡ not b → a ≡ false → b ≡ true
if_not a true h is = refl
if_not a false h is = absurd (true≢false (sym h ∙ is))

module _ (part : Part) (way : Way) (k : IsWayOf part way) (next next' : List Way) (any : Bool)
    (spread : (m : Moment) → led_on part way.counted.order ≡ Some m
    → IsSpread part way m next next' any) where
  here : IsSpread part way k.at next next' any
  here = spread k.at k.leads

  -- a way that goes on
  pub going : any ≡ true → (rows : List Row) → IsAdvanced part way next rows next' rows
  going is rows = record {
    advances = λ kept outcomes. record {
      at = k.at;
      leads = k.leads;
      spreads = here.spreads kept;
      ends = subst (λ (b : Bool). EndsIf b (SameOutcome part) (counted_rows rows) way.counted
          (counted_rows rows))
          (sym (unless any (rests (moved part.play) (all_tasks part.play) k.at) here.none is)) refl;
    };
    kept = here.kept;
    outcomes = λ outcomes. outcomes;
    apart = λ outcomes apart. apart;
  }

  -- a way that is an order
  pub ending : any ≡ false → (rows rows' : List Row) (row : Row) → row.counted ≡ way.counted
      → HasOutcome part row → IsRowAdded rows row rows'
      → IsAdvanced part way next rows next' rows'
  ending is rows rows' row same has added = record {
    advances = λ kept outcomes. record {
      at = k.at;
      leads = k.leads;
      spreads = here.spreads kept;
      ends = subst (λ (b : Bool). EndsIf b (SameOutcome part) (counted_rows rows) way.counted
          (counted_rows rows'))
          (sym (if_not any (rests (moved part.play) (all_tasks part.play) k.at) here.none is))
          (subst (λ (c : Counted). EndsIf true (SameOutcome part) (counted_rows rows) c
          (counted_rows rows')) same (row_added part rows row outcomes has rows' added));
    };
    kept = here.kept;
    outcomes = λ outcomes. row_outcomes part rows row outcomes has rows' added;
    apart = λ outcomes apart. row_apart part rows row outcomes has rows' added apart;
  }

-- ---- all ways of a layer

module _ (part : Part) where
  pub step_none : (rows : List Row) → IsStep part [] rows [] rows
  step_none rows = record {
    advances = λ outcomes. (refl, refl);
    kept = All-nil (IsWayOf part);
    outcomes = λ outcomes. outcomes;
    apart = λ outcomes apart. apart;
  }

  pub step_more : (layer : List Way) (i : ℕ) (way : Way) (rows : List Row) (next : List Way)
      (mid : List Row) (next' : List Way) (rows' : List Row) → i < length layer
      → way ≡ get_or layer i way → IsStep part (take i layer) rows next mid
      → IsAdvanced part way next mid next' rows'
      → IsStep part (take (i + 1) layer) rows next' rows'
  step_more layer i way rows next mid next' rows' lt is s a = record {
    advances = λ outcomes.
        subst (λ (cs : List Counted). AllAdvance (moved part.play) (all_tasks part.play)
        (begun part)
        (outcome_at part.play) (IsAlike part.play) cs [] (counted_rows rows) (counted_ways next')
        (counted_rows rows')) (sym one_more)
        (advance-more (moved part.play) (begun part) (IsAlike part.play) (all_tasks part.play)
        (outcome_at part.play)
        (counted_ways (take i layer)) way.counted [] (counted_rows rows) (counted_ways next)
        (counted_rows mid) (counted_ways next') (counted_rows rows') (s.advances outcomes)
        (a.advances s.kept (s.outcomes outcomes)));
    kept = a.kept s.kept;
    outcomes = λ outcomes. a.outcomes (s.outcomes outcomes);
    apart = λ outcomes apart. a.apart (s.outcomes outcomes) (s.apart outcomes apart);
  }
    where
      one_more : counted_ways (take (i + 1) layer)
          ≡ counted_ways (take i layer) ++ way.counted ∷ []
      one_more =
          ap counted_ways (take_more layer i way lt
          ∙ ap (λ (w : Way). take i layer ++ w ∷ []) (sym is))
          ∙ map-append (λ (w : Way). w.counted) (take i layer) (way ∷ [])

  -- ---- layers

  pub layer_first : (way : Way) → IsRoot part way → IsLayer part 0 (way ∷ []) []
  layer_first way r = record {
    stands = subst (λ (c : Counted). StandsAt (moved part.play) (all_tasks part.play) (begun part)
        (outcome_at part.play) (IsAlike part.play) 0 (c ∷ []) []) (sym r.0)
        (begins (moved part.play) (all_tasks part.play) (begun part) (outcome_at part.play)
        (IsAlike part.play)
        (alike_from part.play (begun part)));
    kept = All-cons (IsWayOf part) way [] r.1 (All-nil (IsWayOf part));
    outcomes = All-nil (HasOutcome part);
    apart = λ a b x y below at_x at_y same. none-some x at_x;
  }

  pub layer_next : (k : ℕ) (layer : List Way) (rows : List Row) (next : List Way)
      (rows' : List Row) → IsLayer part k layer rows → IsStep part layer rows next rows'
      → IsLayer part (k + 1) next rows'
  layer_next k layer rows next rows' l s =
      subst (λ (n : ℕ). IsLayer part n next rows') (sym (add-one k)) (record {
        stands = step (moved part.play) (all_tasks part.play) (begun part) (outcome_at part.play)
            (IsAlike part.play)
            (alike_from part.play (begun part)) k
            (counted_ways layer) (counted_rows rows) (counted_ways next) (counted_rows rows')
            l.stands (s.advances l.outcomes);
        kept = s.kept;
        outcomes = s.outcomes l.outcomes;
        apart = s.apart l.outcomes l.apart;
      })

  -- these ways have k turns after the first ones
  short : (k : ℕ) (ws : List Way)
      → ((c : Counted) → Contains (counted_ways ws) c → length c.order ≡ k)
      → All (IsWayOf part) ws → length part.first.items + k < most_turns
      → All (λ (w : Way). length w.point.turns < most_turns) ws
  short k [] long kept few = All-nil (λ (w : Way). length w.point.turns < most_turns)
  short k (w ∷ ws) long kept few =
      let here : IsWayOf part w = All-head (IsWayOf part) w ws kept in
      let all = ap length here.turns in
      let sum = length-append part.first.items w.counted.order in
      let more = long w.counted (first_in w.counted (counted_ways ws)) in
      All-cons (λ (v : Way). length v.point.turns < most_turns) w ws
      (omega (arith, all, sum, more, few))
      (short k ws (λ c inside. long c (later_in w.counted (counted_ways ws) c inside))
      (All-tail (IsWayOf part) w ws kept) few)

  -- the ways of a layer have as many turns as the layer, after the first ones
  pub layer_short : (k : ℕ) (layer : List Way) (rows : List Row) → IsLayer part k layer rows
      → length part.first.items + k < most_turns
      → All (λ (w : Way). length w.point.turns < most_turns) layer
  layer_short k layer rows l few =
      short k layer (λ c inside. (l.stands.ways_in c inside).long) l.kept few

  -- after the last layer
  pub table : (k : ℕ) (rows : List Row) → IsLayer part k [] rows
      → IsTableFrom part.play (Some (begun part)) rows
  table k rows l = record {
    rows_of = ends (moved part.play) (all_tasks part.play) (begun part) (outcome_at part.play)
        (IsAlike part.play)
        (alike_from part.play (begun part)) k
        (counted_rows rows) l.stands (distinct part rows l.outcomes l.apart);
    outcomes = l.outcomes;
    apart = l.apart;
  }
