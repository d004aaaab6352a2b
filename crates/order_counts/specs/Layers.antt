-- How orders are counted without listing them: moments at which the same can follow are met once,
-- and stand for all the ways that lead to one of them. A layer has the moments after one number of
-- turns, each named by the first way that leads to it.
use Rattle.std.specs.Prelude.{◌≡◌, ℕ, zero, suc, ◌+◌, ◌*◌, ◌⊎◌, Bool, true, false, ◌&&◌, Contains, List, [], ◌∷◌, ◌++◌, length, Option, Some, None, if◌then◌else◌}
use Rattle.std.specs.List.{list_all}
use Rattle.order_counts.specs.Orders.{comes_before, is_among, is_order, led, rests}
use Rattle.order_counts.specs.Rows.{Counted, one_if, outcome_after, passes, weighed}

-- ---- alike states

abbrev pub BothOrNone : {M : Type 0} → (M → M → Type 0) → Option M → Option M → Type 0
BothOrNone Alike None None = Unit {0}
BothOrNone Alike (Some a) (Some b) = Alike a b
BothOrNone Alike _ _ = ⊥

-- at alike states the same tasks can move, and lead to alike states; and if none can move, the
-- outcomes are equal
pub record AreAlike {M O : Type 0} (go : M → ℕ → Option M) (tasks : List ℕ) (start : M)
    (outcome : M → O) (Alike : M → M → Type 0) : Type 0 where
  -- each state to which turns lead is alike to itself
  pub itself : (turns : List ℕ) (a : M) → led go (Some start) turns ≡ Some a → Alike a a
  pub along : (a b c : M) → Alike a b → Alike b c → Alike a c
  pub moves : (a b : M) → Alike a b → (n : ℕ) → BothOrNone Alike (go a n) (go b n)
  pub ends : (a b : M) → Alike a b → rests go tasks a ≡ true → outcome a ≡ outcome b

-- ---- ways on

-- the sum of the numbers that f gives for the tasks
abbrev pub over : (ℕ → ℕ) → List ℕ → ℕ
over f [] = 0
over f (n ∷ ns) = f n + over f ns

-- 1 if the tasks rest at the state and its outcome passes the test
abbrev pub ended : {M O : Type 0} → (M → ℕ → Option M) → List ℕ → (M → O) → (O → Bool) → M → ℕ
ended go tasks outcome test m = one_if (rests go tasks m && test (outcome m))

-- the number of the orders of at most k turns from the state on whose outcome passes the test
abbrev pub ways : {M O : Type 0} → (M → ℕ → Option M) → List ℕ → (M → O) → (O → Bool) → ℕ
    → Option M → ℕ
ways go tasks outcome test k None = 0
ways go tasks outcome test zero (Some m) = ended go tasks outcome test m
ways go tasks outcome test (suc k) (Some m) =
    ended go tasks outcome test m
    + over (λ n. ways go tasks outcome test k (go m n)) tasks

-- ---- layers

-- both ways lead to a state, and the states are alike
abbrev pub LeadAlike : {M : Type 0} → (M → ℕ → Option M) → (M → M → Type 0) → M → List ℕ → List ℕ
    → Type 0
LeadAlike {M} go Alike start a b =
    (x : M) × ((y : M) × ((led go (Some start) a ≡ Some x) × ((led go (Some start) b ≡ Some y)
    × Alike x y)))

-- the way without turns
abbrev pub root : Counted
root = record { order = []; count = 1 }

-- a way of k turns, each of which moves one of the tasks
pub record IsWay {M : Type 0} (go : M → ℕ → Option M) (tasks : List ℕ) (start : M) (k : ℕ)
    (turns : List ℕ) : Type 0 where
  pub long : length turns ≡ k
  pub at : M
  pub leads : led go (Some start) turns ≡ Some at
  pub named : list_all (λ n. is_among n tasks) turns ≡ true

-- one of these is the same, and doesn't come after the turns
pub record StandsFor (Same : List ℕ → List ℕ → Type 0) (cs : List Counted) (turns : List ℕ)
    : Type 0 where
  pub it : Counted
  pub inside : Contains cs it
  pub same : Same it.order turns
  pub first : comes_before turns it.order ≡ false

-- the orders have the same outcome
abbrev pub HaveOneOutcome : {M O : Type 0} → (M → ℕ → Option M) → (M → O) → M → List ℕ → List ℕ
    → Type 0
HaveOneOutcome go outcome start a b =
    outcome_after go outcome start a ≡ outcome_after go outcome start b

-- the order goes on from a moment of the layer, which stands for its first k turns
pub record GoesOn {M : Type 0} (go : M → ℕ → Option M) (Alike : M → M → Type 0) (start : M) (k : ℕ)
    (layer : List Counted) (turns : List ℕ) : Type 0 where
  pub begin : List ℕ
  pub rest : List ℕ
  pub parts : turns ≡ begin ++ rest
  pub long : length begin ≡ k
  pub from : StandsFor (LeadAlike go Alike start) layer begin

-- after k turns: the orders that have ended are in the rows, and all others go on from the layer
pub record StandsAt {M O : Type 0} (go : M → ℕ → Option M) (tasks : List ℕ) (start : M)
    (outcome : M → O) (Alike : M → M → Type 0) (k : ℕ) (layer rows : List Counted)
    : Type 0 where
  pub ways_in : (c : Counted) → Contains layer c → IsWay go tasks start k c.order
  pub orders_in : (c : Counted) → Contains rows c
      → is_order go tasks (Some start) c.order ≡ true
  pub counts : (test : O → Bool) (r : ℕ)
      → ways go tasks outcome test (k + r) (Some start)
      ≡ weighed (λ turns. one_if (passes test (outcome_after go outcome start turns))) rows
      + weighed (λ turns. ways go tasks outcome test r (led go (Some start) turns)) layer
  pub reached : (turns : List ℕ) → is_order go tasks (Some start) turns ≡ true
      → StandsFor (HaveOneOutcome go outcome start) rows turns
      ⊎ GoesOn go Alike start k layer turns

-- ---- the next layer

-- The orders with one more. Of those that are the same, one stands for all: it has their counts,
-- and none of them comes before it
pub record IsAdded (Same : List ℕ → List ℕ → Type 0) (old : List Counted) (c : Counted)
    (new : List Counted) : Type 0 where
  pub weights : (f : List ℕ → ℕ) → ((a b : List ℕ) → Same a b → f a ≡ f b)
      → weighed f new ≡ weighed f old + c.count * f c.order
  pub no_other : (d : Counted) → Contains new d
      → (d.order ≡ c.order) ⊎ ((e : Counted) × (Contains old e × (d.order ≡ e.order)))
  pub kept : (e : Counted) → Contains old e → StandsFor Same new e.order
  pub added : StandsFor Same new c.order

-- one of two that doesn't come after the other, with the counts of both
pub record IsJoined (x c m : Counted) : Type 0 where
  pub count : m.count ≡ x.count + c.count
  pub is : (m.order ≡ x.order) ⊎ (m.order ≡ c.order)
  pub before_x : comes_before x.order m.order ≡ false
  pub before_c : comes_before c.order m.order ≡ false

-- the one of two that doesn't come after the other
abbrev pub first_of : List ℕ → List ℕ → List ℕ
first_of a b = if comes_before b a then b else a

-- the first of two, with the counts of both
abbrev pub joined : Counted → Counted → Counted
joined x c = record { order = first_of x.order c.order; count = x.count + c.count }

-- the way with one turn more
abbrev pub with_turn : Counted → ℕ → Counted
with_turn c n = record c { order = c.order ++ n ∷ [] }

-- a way is added to the layer if its last turn moved its task
abbrev pub AddsIf : {M : Type 0} → (List ℕ → List ℕ → Type 0) → Option M → List Counted → Counted
    → List Counted → Type 0
AddsIf Same None old c new = new ≡ old
AddsIf Same (Some m) old c new = IsAdded Same old c new

-- the ways on from the state m, to which the way c leads, with one turn of each of these tasks
abbrev pub Spreads : {M : Type 0} → (M → ℕ → Option M) → (M → M → Type 0) → M → M → Counted
    → List ℕ → List Counted → List Counted → Type 0
Spreads go Alike start m c [] old new = new ≡ old
Spreads go Alike start m c (n ∷ ns) old new =
    (mid : List Counted) × (AddsIf (LeadAlike go Alike start) (go m n) old (with_turn c n) mid
    × Spreads go Alike start m c ns mid new)

-- the way is added to the rows if it is an order
abbrev pub EndsIf : Bool → (List ℕ → List ℕ → Type 0) → List Counted → Counted → List Counted
    → Type 0
EndsIf false Same old c new = new ≡ old
EndsIf true Same old c new = IsAdded Same old c new

-- the way goes on in the next layer, and ends in the rows if no task can move
pub record Advances {M O : Type 0} (go : M → ℕ → Option M) (tasks : List ℕ) (start : M)
    (outcome : M → O) (Alike : M → M → Type 0) (c : Counted) (next rows next' rows' : List Counted)
    : Type 0 where
  pub at : M
  pub leads : led go (Some start) c.order ≡ Some at
  pub spreads : Spreads go Alike start at c tasks next next'
  pub ends : EndsIf (rests go tasks at) (HaveOneOutcome go outcome start) rows c rows'

-- all ways of a layer do
abbrev pub AllAdvance : {M O : Type 0} → (M → ℕ → Option M) → List ℕ → M → (M → O)
    → (M → M → Type 0) → List Counted → List Counted → List Counted → List Counted → List Counted
    → Type 0
AllAdvance go tasks start outcome Alike [] next rows next' rows' =
    (next' ≡ next) × (rows' ≡ rows)
AllAdvance go tasks start outcome Alike (c ∷ cs) next rows next' rows' =
    (mid : List Counted) × ((more : List Counted)
    × (Advances go tasks start outcome Alike c next rows mid more
    × AllAdvance go tasks start outcome Alike cs mid more next' rows'))
