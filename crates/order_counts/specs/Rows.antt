-- The rows of outcomes: one for each outcome that some order has, with the number of the orders
-- that have it and the first of them.
use Rattle.std.specs.Prelude.{◌≡◌, ℕ, ◌+◌, ◌*◌, ◌<◌, ◌≤◌, Bool, true, false, All, Contains, List, [], ◌∷◌, count_by, Option, Some, None, option_map, slice_get, if◌then◌else◌}
use Rattle.order_counts.specs.Orders.{comes_before, is_order, led, orders}

-- an order, with the number of the orders for which it stands
pub record Counted : Type 0 where
  pub order : List ℕ
  pub count : ℕ

-- the sum of what f gives for each order, as many times as it counts
abbrev pub weighed : (List ℕ → ℕ) → List Counted → ℕ
weighed f [] = 0
weighed f (c ∷ cs) = c.count * f c.order + weighed f cs

-- ---- tests of outcomes

abbrev pub passes : {O : Type 0} → (O → Bool) → Option O → Bool
passes test None = false
passes test (Some o) = test o

abbrev pub one_if : Bool → ℕ
one_if b = if b then 1 else 0

-- the outcome of these turns, if each moves its task
abbrev pub outcome_after : {M O : Type 0} → (M → ℕ → Option M) → (M → O) → M → List ℕ → Option O
outcome_after go outcome start turns = option_map outcome (led go (Some start) turns)

-- ---- the rows

-- `outcome` gives the outcome of a state in which no task can move
pub record AreRows {M O : Type 0} (go : M → ℕ → Option M) (tasks : List ℕ) (start : M)
    (outcome : M → O) (rows : List Counted) : Type 0 where
  -- each row has an order, and no order with the same outcome comes before it
  pub are_orders : All (λ (row : Counted). is_order go tasks (Some start) row.order ≡ true) rows
  pub firsts : All (λ (row : Counted). (turns : List ℕ)
      → is_order go tasks (Some start) turns ≡ true
      → outcome_after go outcome start turns ≡ outcome_after go outcome start row.order
      → comes_before turns row.order ≡ false) rows
  -- the outcome of each order is that of exactly one row
  pub each : (turns : List ℕ) → is_order go tasks (Some start) turns ≡ true
      → (row : Counted) × (Contains rows row
      × (outcome_after go outcome start turns ≡ outcome_after go outcome start row.order))
  pub distinct : (a b : ℕ) (x y : Counted) → a < b → slice_get rows a ≡ Some x
      → slice_get rows b ≡ Some y
      → outcome_after go outcome start x.order ≡ outcome_after go outcome start y.order → ⊥
  -- no order has more turns than this
  pub most : ℕ
  -- whatever is tested of an outcome: the counts of the rows whose outcomes pass add up to the
  -- number of the orders whose outcomes pass
  pub counts : (test : O → Bool) (k : ℕ) → most ≤ k
      → count_by (λ turns. passes test (outcome_after go outcome start turns))
      (orders go tasks k (Some start))
      ≡ weighed (λ turns. one_if (passes test (outcome_after go outcome start turns))) rows
