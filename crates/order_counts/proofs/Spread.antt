-- One step of counting: what is added to the layer and to the rows, summed up.
use Rattle.std.proofs.Common.{◌≡◌, ◌⊎◌, ℕ, suc, ◌+◌, ◌*◌, Bool, true, false, ◌&&◌, Contains, List, [], ◌∷◌, ◌++◌, Option, Some, None, option_and_then, option_map, refl, ap, sym, ◌∙◌, arith, inl, inr}
use Rattle.std.proofs.lemmas.List.Elements.{Contains-append_cases, Contains-append_left, Contains-append_right, Contains-push, Contains-push_cases}
use Rattle.order_counts.specs.Layers.{AddsIf, Advances, AllAdvance, AreAlike, EndsIf, HaveOneOutcome, IsAdded, LeadAlike, Spreads, StandsFor, over, ways, with_turn}
use Rattle.order_counts.specs.Orders.{led, rests}
use Rattle.order_counts.specs.Rows.{Counted, one_if, outcome_after, passes, weighed}
use Rattle.order_counts.proofs.Before.{not_after}
use Rattle.order_counts.proofs.Ways.{ways-alike}

-- ---- members

-- nothing is in an empty list
pub in_none : {X : Type 0} (x : X) → Contains [] x → ⊥
in_none x h = omega (arith, h.1)

-- a member of a list is its first item or one of the rest
pub in_cases : {X : Type 0} (c : X) (cs : List X) (x : X) → Contains (c ∷ cs) x
    → (c ≡ x) ⊎ Contains cs x
in_cases c cs x h = by (Contains-append_cases (c ∷ []) cs x h)
  where
    one : Contains [] x ⊎ (c ≡ x) → (c ≡ x) ⊎ Contains cs x
    one (inl none) = absurd (in_none x none)
    one (inr is) = inl is

    by : Contains (c ∷ []) x ⊎ Contains cs x → (c ≡ x) ⊎ Contains cs x
    by (inl first) = one (Contains-push_cases [] c x first)
    by (inr rest) = inr rest

-- the first item of a list is in it, and so are those of the rest
pub first_in : {X : Type 0} (c : X) (cs : List X) → Contains (c ∷ cs) c
first_in c cs = Contains-append_left (c ∷ []) cs c (Contains-push [] c)

pub later_in : {X : Type 0} (c : X) (cs : List X) (x : X) → Contains cs x → Contains (c ∷ cs) x
later_in c cs x h = Contains-append_right (c ∷ []) cs x h

-- ---- turns

-- turns in two parts
pub led-append : {M : Type 0} (go : M → ℕ → Option M) (o : Option M) (a b : List ℕ)
    → led go o (a ++ b) ≡ led go (led go o a) b
led-append go o [] b = refl
led-append go o (n ∷ ns) b = led-append go (option_and_then (λ x. go x n) o) ns b

-- one turn more
pub led-more : {M : Type 0} (go : M → ℕ → Option M) (o : Option M) (a : List ℕ) (n : ℕ) (m : M)
    → led go o a ≡ Some m → led go o (a ++ n ∷ []) ≡ go m n
led-more go o a n m h =
    led-append go o a (n ∷ []) ∙ ap (option_and_then (λ x. go x n)) h

-- ---- what stands for an order

module _ (Same : List ℕ → List ℕ → Type 0)
    (along : (a b c : List ℕ) → Same a b → Same b c → Same a c) where
  -- what stands for an order still does after one more was added
  pub stands_after : (old new : List Counted) (c : Counted) → IsAdded Same old c new
      → (order : List ℕ) → StandsFor Same old order → StandsFor Same new order
  stands_after old new c added order s =
      let t = added.kept s.it s.inside in
      record {
        it = t.it;
        inside = t.inside;
        same = along t.it.order s.it.order order t.same s.same;
        first = not_after t.it.order s.it.order order t.first s.first;
      }

-- ---- the sums of one step

module _ {M O : Type 0} (go : M → ℕ → Option M) (tasks : List ℕ) (start : M) (outcome : M → O)
    (Alike : M → M → Type 0) (alike : AreAlike go tasks start outcome Alike) where
  abbrev pub SameState : List ℕ → List ℕ → Type 0
  SameState a b = LeadAlike go Alike start a b

  abbrev pub SameOutcome : List ℕ → List ℕ → Type 0
  SameOutcome a b = HaveOneOutcome go outcome start a b

  -- the ways on from where the turns lead
  abbrev pub on : (O → Bool) → ℕ → List ℕ → ℕ
  on test r turns = ways go tasks outcome test r (led go (Some start) turns)

  -- 1 if the outcome after the turns passes
  abbrev pub passed : (O → Bool) → List ℕ → ℕ
  passed test turns = one_if (passes test (outcome_after go outcome start turns))

  -- alike ways have as many ways on
  steady : (test : O → Bool) (r : ℕ) (a b : List ℕ) → SameState a b → on test r a ≡ on test r b
  steady test r a b h =
      ap (ways go tasks outcome test r) h.1.1.0
      ∙ ways-alike go tasks start outcome Alike alike test r (Some h.0) (Some h.1.0) h.1.1.1.1
      ∙ sym (ap (ways go tasks outcome test r) h.1.1.1.0)

  -- the weight of what a turn adds
  turn_adds : (test : O → Bool) (r : ℕ) (o : Option M) (old new : List Counted) (c : Counted)
      → AddsIf SameState o old c new → led go (Some start) c.order ≡ o
      → weighed (on test r) new
      ≡ weighed (on test r) old + c.count * ways go tasks outcome test r o
  turn_adds test r None old new c adds leads =
      let same : weighed (on test r) new ≡ weighed (on test r) old
      = ap (weighed (on test r)) adds in
      omega (arith, same)
  turn_adds test r (Some m) old new c adds leads =
      adds.weights (on test r) (steady test r)
      ∙ ap (λ (x : Option M). weighed (on test r) old + c.count * ways go tasks outcome test r x)
      leads

  -- the weight of what the turns of all tasks add
  spread_adds : (test : O → Bool) (r : ℕ) (m : M) (c : Counted)
      → led go (Some start) c.order ≡ Some m → (ns : List ℕ) (old new : List Counted)
      → Spreads go Alike start m c ns old new
      → weighed (on test r) new
      ≡ weighed (on test r) old + c.count * over (λ n. ways go tasks outcome test r (go m n)) ns
  spread_adds test r m c leads [] old new h =
      let same : weighed (on test r) new ≡ weighed (on test r) old = ap (weighed (on test r)) h in
      omega (arith, same)
  spread_adds test r m c leads (n ∷ ns) old new h =
      let first = turn_adds test r (go m n) old h.0 (with_turn c n) h.1.0
      (led-more go (Some start) c.order n m leads) in
      let rest = spread_adds test r m c leads ns h.0 new h.1.1 in
      omega (arith, first, rest)

  -- the weight of what is added to the rows
  end_adds : (test : O → Bool) (m : M) (c : Counted) → led go (Some start) c.order ≡ Some m
      → (b : Bool) (rows rows' : List Counted) → EndsIf b SameOutcome rows c rows'
      → weighed (passed test) rows'
      ≡ weighed (passed test) rows + c.count * one_if (b && test (outcome m))
  end_adds test m c leads false rows rows' h =
      let same : weighed (passed test) rows' ≡ weighed (passed test) rows
      = ap (weighed (passed test)) h in
      omega (arith, same)
  end_adds test m c leads true rows rows' h =
      h.weights (passed test) (λ a b same. ap (λ o. one_if (passes test o)) same)
      ∙ ap (λ (o : Option M). weighed (passed test) rows
      + c.count * one_if (passes test (option_map outcome o))) leads

  -- the ways on by one turn more are those that one step adds
  advance_adds : (test : O → Bool) (r : ℕ) (c : Counted) (next rows next' rows' : List Counted)
      → Advances go tasks start outcome Alike c next rows next' rows'
      → weighed (passed test) rows' + weighed (on test r) next'
      ≡ weighed (passed test) rows + weighed (on test r) next + c.count * on test (suc r) c.order
  advance_adds test r c next rows next' rows' h =
      let spread = spread_adds test r h.at c h.leads tasks next next' h.spreads in
      let end = end_adds test h.at c h.leads (rests go tasks h.at) rows rows' h.ends in
      let whole : on test (suc r) c.order
      ≡ one_if (rests go tasks h.at && test (outcome h.at))
      + over (λ n. ways go tasks outcome test r (go h.at n)) tasks
      = ap (ways go tasks outcome test (suc r)) h.leads in
      let scaled = ap (λ x. c.count * x) whole in
      omega (arith, spread, end, scaled)

  -- the ways on from a whole layer are those that its step leaves
  pub all_add : (test : O → Bool) (r : ℕ) (layer next rows next' rows' : List Counted)
      → AllAdvance go tasks start outcome Alike layer next rows next' rows'
      → weighed (passed test) rows' + weighed (on test r) next'
      ≡ weighed (passed test) rows + weighed (on test r) next + weighed (on test (suc r)) layer
  all_add test r [] next rows next' rows' h =
      let one : weighed (on test r) next' ≡ weighed (on test r) next
      = ap (weighed (on test r)) h.0 in
      let two : weighed (passed test) rows' ≡ weighed (passed test) rows
      = ap (weighed (passed test)) h.1 in
      omega (arith, one, two)
  all_add test r (c ∷ cs) next rows next' rows' h =
      let first = advance_adds test r c next rows h.0 h.1.0 h.1.1.0 in
      let rest = all_add test r cs h.0 h.1.0 next' rows' h.1.1.1 in
      omega (arith, first, rest)
