-- The ways that are met are among the listed ways, and the orders that are counted are among the
-- listed orders.
use Rattle.std.proofs.Common.{◌≡◌, ℕ, zero, suc, ◌+◌, ◌*◌, ◌≤◌, Bool, true, false, ◌&&◌, cond, Contains, List, [], ◌∷◌, ◌++◌, map, flat_map, count_by, length, length-append, Option, Some, None, option_map, refl, ap, sym, ◌∙◌, arith}
use Rattle.std.proofs.lemmas.List.{length-map}
use Rattle.std.proofs.Math.Nat.{mul-le-mul_left}
use Rattle.std.proofs.lemmas.List.Sums.{sum_by-cons}
use Rattle.order_outcomes.specs.counts.Layers.{AddsIf, Advances, AllAdvance, AreAlike, BothOrNone, LeadAlike, Spreads, over, root, ways, with_turn}
use Rattle.order_outcomes.specs.counts.Orders.{led, orders, rests}
use Rattle.order_outcomes.specs.counts.Rows.{AreRows, Counted, one_if, outcome_after, passes, weighed}
use Rattle.order_outcomes.proofs.about_counts.Lists.{over-same, weighed-append}
use Rattle.order_outcomes.proofs.about_counts.Spread.{all_add, first_in, later_in, led-more, on, passed}
use Rattle.order_outcomes.proofs.about_counts.Ways.{ways_are_orders}
use Rattle.order_runs.specs.Stops.{counts_of, ways_within}

-- a sum of lengths
length-flat : {X : Type 0} (f : ℕ → List X) (ns : List ℕ)
    → length (flat_map f ns) ≡ over (λ n. length (f n)) ns
length-flat f [] = refl
length-flat f (n ∷ ns) =
    length-append (f n) (flat_map f ns) ∙ ap (λ k. length (f n) + k) (length-flat f ns)

module _ {M : Type 0} (go : M → ℕ → Option M) (tasks : List ℕ) where
  -- the number of the ways of at most k turns
  abbrev pub within : ℕ → Option M → ℕ
  within k o = length (ways_within go tasks k o)

  -- there is the way without turns, and those that begin with a turn of each task
  within-more : (k : ℕ) (m : M)
      → within (suc k) (Some m) ≡ 1 + over (λ n. within k (go m n)) tasks
  within-more k m =
      let flat = length-flat (λ n. map (λ ts. n ∷ ts) (ways_within go tasks k (go m n))) tasks in
      let same = over-same
      (λ n. length (map (λ ts. n ∷ ts) (ways_within go tasks k (go m n))))
      (λ n. within k (go m n))
      (λ n. length-map (ways_within go tasks k (go m n)) (λ ts. n ∷ ts)) tasks in
      omega (arith, flat, same)

  -- there is at least the way without turns
  within_some : (k : ℕ) (m : M) → 1 ≤ within k (Some m)
  within_some zero m = omega arith
  within_some (suc k) m = omega arith

  -- the ways on from where the turns lead
  abbrev pub further : M → ℕ → List ℕ → ℕ
  further start r turns = within r (led go (Some start) turns)

  -- the ways of at most k turns are those that were met before the layer, and those of the layer
  abbrev pub IsMet : M → ℕ → List Counted → ℕ → Type 0
  IsMet start k layer met =
      (r : ℕ) → within (k + r) (Some start) ≡ met + weighed (further start r) layer

  -- each of these leads to a state
  abbrev pub AllLead : M → List Counted → Type 0
  AllLead start cs = (c : Counted) → Contains cs c
      → (m : M) × (led go (Some start) c.order ≡ Some m)

  pub met_first : (start : M) → IsMet start 0 (root ∷ []) 0
  met_first start = λ r.
      let index : 0 + r ≡ r = omega arith in
      let same = ap (λ j. within j (Some start)) index in
      omega (arith, same)

  -- from each way there is at least itself
  pub counts_within : (start : M) (r : ℕ) (cs : List Counted) → AllLead start cs
      → counts_of cs ≤ weighed (further start r) cs
  counts_within start r [] leads = omega arith
  counts_within start r (c ∷ cs) leads =
      let here = leads c (first_in c cs) in
      let rest = counts_within start r cs (λ d inside. leads d (later_in c cs d inside)) in
      let same = ap (within r) here.1 in
      let some = within_some r here.0 in
      let more : 1 ≤ further start r c.order = omega (arith, same, some) in
      let scaled : c.count * 1 ≤ c.count * further start r c.order
      = mul-le-mul_left c.count more in
      omega (arith, rest, scaled)

  -- there are at least as many ways as were met
  pub met_within : (start : M) (k : ℕ) (layer : List Counted) (met : ℕ) → IsMet start k layer met
      → AllLead start layer → met + counts_of layer ≤ within k (Some start)
  met_within start k layer met is leads =
      let one = is 0 in
      let two = counts_within start 0 layer leads in
      let index : k + 0 ≡ k = omega arith in
      let three = ap (λ j. within j (Some start)) index in
      omega (arith, one, two, three)

  module _ {O : Type 0} (start : M) (outcome : M → O) (Alike : M → M → Type 0)
      (alike : AreAlike go tasks start outcome Alike) where
    -- alike states have as many ways
    within-alike : (k : ℕ) (o p : Option M) → BothOrNone Alike o p → within k o ≡ within k p
    within-alike k None None h = refl
    within-alike k None (Some b) h = absurd h
    within-alike k (Some a) None h = absurd h
    within-alike zero (Some a) (Some b) h = refl
    within-alike (suc k) (Some a) (Some b) h =
        within-more k a
        ∙ ap (λ n. 1 + n) (over-same (λ n. within k (go a n)) (λ n. within k (go b n))
        (λ n. within-alike k (go a n) (go b n) (alike.moves a b h n)) tasks)
        ∙ sym (within-more k b)

    steady : (r : ℕ) (a b : List ℕ) → LeadAlike go Alike start a b
        → further start r a ≡ further start r b
    steady r a b h =
        ap (within r) h.1.1.0
        ∙ within-alike r (Some h.0) (Some h.1.0) h.1.1.1.1
        ∙ sym (ap (within r) h.1.1.1.0)

    -- what a turn adds
    turn_adds : (r : ℕ) (o : Option M) (old new : List Counted) (c : Counted)
        → AddsIf (LeadAlike go Alike start) o old c new → led go (Some start) c.order ≡ o
        → weighed (further start r) new ≡ weighed (further start r) old + c.count * within r o
    turn_adds r None old new c adds leads =
        let same : weighed (further start r) new ≡ weighed (further start r) old
        = ap (weighed (further start r)) adds in
        omega (arith, same)
    turn_adds r (Some m) old new c adds leads =
        adds.weights (further start r) (steady r)
        ∙ ap (λ (x : Option M). weighed (further start r) old + c.count * within r x) leads

    -- what the turns of all tasks add
    spread_adds : (r : ℕ) (m : M) (c : Counted) → led go (Some start) c.order ≡ Some m
        → (ns : List ℕ) (old new : List Counted) → Spreads go Alike start m c ns old new
        → weighed (further start r) new
        ≡ weighed (further start r) old + c.count * over (λ n. within r (go m n)) ns
    spread_adds r m c leads [] old new h =
        let same : weighed (further start r) new ≡ weighed (further start r) old
        = ap (weighed (further start r)) h in
        omega (arith, same)
    spread_adds r m c leads (n ∷ ns) old new h =
        let first = turn_adds r (go m n) old h.0 (with_turn c n) h.1.0
        (led-more go (Some start) c.order n m leads) in
        let rest = spread_adds r m c leads ns h.0 new h.1.1 in
        omega (arith, first, rest)

    -- what one way adds
    advance_adds : (r : ℕ) (c : Counted) (next rows next' rows' : List Counted)
        → Advances go tasks start outcome Alike c next rows next' rows'
        → weighed (further start r) next' + c.count
        ≡ weighed (further start r) next + c.count * further start (suc r) c.order
    advance_adds r c next rows next' rows' h =
        let spread = spread_adds r h.at c h.leads tasks next next' h.spreads in
        let whole : further start (suc r) c.order ≡ 1 + over (λ n. within r (go h.at n)) tasks
        = ap (within (suc r)) h.leads ∙ within-more r h.at in
        let scaled = ap (λ x. c.count * x) whole in
        omega (arith, spread, scaled)

    -- what a layer adds
    pub layer_adds : (r : ℕ) (layer next rows next' rows' : List Counted)
        → AllAdvance go tasks start outcome Alike layer next rows next' rows'
        → weighed (further start r) next' + counts_of layer
        ≡ weighed (further start r) next + weighed (further start (suc r)) layer
    layer_adds r [] next rows next' rows' h =
        let same : weighed (further start r) next' ≡ weighed (further start r) next
        = ap (weighed (further start r)) h.0 in
        omega (arith, same)
    layer_adds r (c ∷ cs) next rows next' rows' h =
        let first = advance_adds r c next rows h.0 h.1.0 h.1.1.0 in
        let rest = layer_adds r cs h.0 h.1.0 next' rows' h.1.1.1 in
        omega (arith, first, rest)

    -- ---- the ways that were met

    pub met_next : (k : ℕ) (layer rows next rows' : List Counted) (met : ℕ) → IsMet start k layer met
        → AllAdvance go tasks start outcome Alike layer [] rows next rows'
        → IsMet start (k + 1) next (met + counts_of layer)
    met_next k layer rows next rows' met is h = λ r.
        let one = is (suc r) in
        let two = layer_adds r layer [] rows next rows' h in
        let index : k + 1 + r ≡ k + suc r = omega arith in
        let three = ap (λ j. within j (Some start)) index in
        omega (arith, one, two, three)

    -- if only the first ways of the layer have gone on yet
    pub part_within : (k : ℕ) (front back rows next rows' : List Counted) (met : ℕ)
        → IsMet start k (front ++ back) met → AllLead start back → AllLead start next
        → AllAdvance go tasks start outcome Alike front [] rows next rows'
        → met + counts_of (front ++ back) + counts_of next ≤ within (k + 1) (Some start)
    part_within k front back rows next rows' met is leads leads' h =
        let one = is 1 in
        let two = layer_adds 0 front [] rows next rows' h in
        let three = counts_within start 1 back leads in
        let four = counts_within start 0 next leads' in
        let five = weighed-append (further start 1) front back in
        let six = weighed-append (λ turns. 1) front back in
        omega (arith, one, two, three, four, five, six)

    -- ---- the orders that were counted

    abbrev always : O → Bool
    always o = true

    -- orders that pass a test are orders
    count_within : (p : List ℕ → Bool) (xs : List (List ℕ)) → count_by p xs ≤ length xs
    count_within p [] = omega arith
    count_within p (x ∷ xs) =
        let rest = count_within p xs in
        let cons = sum_by-cons (λ y. cond (p y) 1 0) x xs in
        let one = by (p x) in
        omega (arith, rest, cons, one)
      where
        by : (b : Bool) → cond b 1 0 ≤ 1
        by true = omega arith
        by false = omega arith

    pub orders_within : (k : ℕ)
        → ways go tasks outcome always k (Some start) ≤ length (orders go tasks k (Some start))
    orders_within k =
        let one = ways_are_orders go outcome always tasks k (Some start) in
        let two = count_within
        (λ ts. passes always (option_map outcome (led go (Some start) ts)))
        (orders go tasks k (Some start)) in
        omega (arith, one, two)

    -- rows whose orders lead to a state pass
    pub rows_pass : (rows : List Counted) → AllLead start rows
        → weighed (passed go tasks start outcome Alike alike always) rows ≡ counts_of rows
    rows_pass [] leads = refl
    rows_pass (c ∷ cs) leads =
        let here = leads c (first_in c cs) in
        let rest = rows_pass cs (λ d inside. leads d (later_in c cs d inside)) in
        let same : one_if (passes always (outcome_after go outcome start c.order)) ≡ 1
        = ap (λ (o : Option M). one_if (passes always (option_map outcome o))) here.1 in
        let scaled = ap (λ x. c.count * x) same in
        omega (arith, rest, scaled)

    -- a way at which the tasks rest is an order
    rest_counts : (r : ℕ) (c : Counted) (m : M) → led go (Some start) c.order ≡ Some m
        → rests go tasks m ≡ true
        → c.count ≤ c.count * on go tasks start outcome Alike alike always (suc r) c.order
    rest_counts r c m leads rest =
        let same : on go tasks start outcome Alike alike always (suc r) c.order
        ≡ one_if (rests go tasks m && true)
        + over (λ n. ways go tasks outcome always r (go m n)) tasks
        = ap (ways go tasks outcome always (suc r)) leads in
        let one : one_if (rests go tasks m && true) ≡ 1 = ap (λ b. one_if (b && true)) rest in
        let more : 1 ≤ on go tasks start outcome Alike alike always (suc r) c.order
        = omega (arith, same, one) in
        let scaled : c.count * 1
        ≤ c.count * on go tasks start outcome Alike alike always (suc r) c.order
        = mul-le-mul_left c.count more in
        omega (arith, scaled)

    -- the orders that were counted before a way that is one more
    pub part_orders : (k : ℕ) (front back rows next rows' : List Counted) (c : Counted) (m : M)
        → ((test : O → Bool) (r : ℕ) → ways go tasks outcome test (k + r) (Some start)
        ≡ weighed (passed go tasks start outcome Alike alike test) rows
        + weighed (on go tasks start outcome Alike alike test r) (front ++ c ∷ back))
        → AllAdvance go tasks start outcome Alike front [] rows next rows' → AllLead start rows'
        → led go (Some start) c.order ≡ Some m → rests go tasks m ≡ true
        → counts_of rows' + c.count ≤ length (orders go tasks (k + 1) (Some start))
    part_orders k front back rows next rows' c m counts h leads leads_c rest =
        let one = counts always 1 in
        let two = all_add go tasks start outcome Alike alike always 0 front [] rows next rows' h in
        let three = rows_pass rows' leads in
        let four = weighed-append (on go tasks start outcome Alike alike always 1) front
        (c ∷ back) in
        let five = rest_counts 0 c m leads_c rest in
        let six = orders_within (k + 1) in
        omega (arith, one, two, three, four, five, six)

    -- the orders of all rows
    pub rows_within : (rows : List Counted) → AllLead start rows
        → AreRows go tasks start outcome rows
        → (k : ℕ) × (counts_of rows ≤ length (orders go tasks k (Some start)))
    rows_within rows leads are =
        let one = are.counts always are.most (omega arith) in
        let two = rows_pass rows leads in
        let three = count_within
        (λ ts. passes always (outcome_after go outcome start ts))
        (orders go tasks are.most (Some start)) in
        (are.most, omega (arith, one, two, three))
