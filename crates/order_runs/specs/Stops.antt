-- Why there may be no rows.
use Rattle.std.specs.Prelude.{◌≡◌, ℕ, zero, suc, ◌+◌, ◌<◌, ◌≤◌, ◌^◌, ◌⊎◌, true, List, [], ◌∷◌, ◌++◌, length, map, Option, Some, None}
use Rattle.std.specs.List.{flat_map}
use Rattle.order_outcomes.specs.Orders.{moment_after, moved}
use Rattle.order_outcomes.specs.counts.Orders.{led, orders, rests}
use Rattle.order_outcomes.specs.counts.Rows.{Counted, weighed}
use Rattle.order_outcomes.specs.reports.model.Rounds.{all_tasks}
use Rattle.order_outcomes.specs.reports.model.Scene.{Scene}
use Rattle.order_outcomes.specs.reports.model.Turns.{Moment}
use Rattle.order_outcomes.specs.scripts.Limits.{most_turns}
use Rattle.order_runs.specs.Steps.{IsStep, counted_rows, led_on}
use Rattle.order_runs.specs.declared.part.Part.{Part}
use Rattle.order_runs.specs.declared.rows.Row.{Row}
use Rattle.order_runs.specs.declared.ways.Way.{Way}

-- ---- ways, listed

-- the ways of at most k turns from a state on: the lists of turns each of which moves its task
abbrev pub ways_within : {M : Type 0} → (M → ℕ → Option M) → List ℕ → ℕ → Option M → List (List ℕ)
ways_within go tasks k None = []
ways_within go tasks zero (Some m) = [] ∷ []
ways_within go tasks (suc k) (Some m) =
    [] ∷ flat_map (λ n. map (λ turns. n ∷ turns) (ways_within go tasks k (go m n))) tasks

-- the ways of at most k turns from this moment on
abbrev pub ways_from : Scene → Option Moment → ℕ → List (List ℕ)
ways_from scene from k = ways_within (moved scene) (all_tasks scene) k from

-- the orders of at most k turns from this moment on
abbrev pub orders_from : Scene → Option Moment → ℕ → List (List ℕ)
orders_from scene from k = orders (moved scene) (all_tasks scene) k from

-- ---- too many moments, turns or orders

-- more ways than this can begin orders
abbrev pub HasMoreWays : Scene → Option Moment → ℕ → Type 0
HasMoreWays scene from most = (k : ℕ) × (most < length (ways_from scene from k))

-- a way after these first turns has, with them, as many turns as a schedule may have
abbrev pub HasLongWay : Scene → Option Moment → List ℕ → Type 0
HasLongWay scene from first =
    (turns : List ℕ) × ((length first + length turns ≡ most_turns)
    × ((m : Moment) × (led (moved scene) from turns ≡ Some m)))

-- the orders are more than 128 bits can count
abbrev pub HasManyOrders : Scene → Option Moment → Type 0
HasManyOrders scene from = (k : ℕ) × (2 ^ 128 ≤ length (orders_from scene from k))

abbrev pub HasTooManyFrom : Scene → Option Moment → List ℕ → ℕ → Type 0
HasTooManyFrom scene from first most =
    HasMoreWays scene from most ⊎ HasLongWay scene from first ⊎ HasManyOrders scene from

-- why there are no rows of the orders that begin so, if at most this many moments may be met
abbrev pub HasTooMany : Scene → List ℕ → ℕ → Type 0
HasTooMany scene first most = HasTooManyFrom scene (moment_after scene first) first most

-- ---- a step that stops

abbrev pub counts_of : List Counted → ℕ
counts_of cs = weighed (λ turns. 1) cs

-- the way is an order, which can't be counted in the rows
pub record IsOverrun (part : Part) (way : Way) (rows : List Row) : Type 0 where
  pub at : Moment
  pub leads : led_on part way.counted.order ≡ Some at
  pub ends : rests (moved part.play) (all_tasks part.play) at ≡ true
  pub many : 2 ^ 128 ≤ counts_of (counted_rows rows) + way.counted.count

-- the first of these ways is an order, which can't be counted in the rows
abbrev pub BeginsOverrun : Part → List Way → List Row → Type 0
BeginsOverrun part ways rows =
    (way : Way) × ((rest : List Way) × ((ways ≡ way ∷ rest) × IsOverrun part way rows))

-- after the first ways of the layer, there are more ways on than this, or too many orders
pub record IsCrowded (part : Part) (layer : List Way) (rows : List Row) (room : ℕ) : Type 0 where
  pub front : List Way
  pub back : List Way
  pub parts : layer ≡ front ++ back
  pub next : List Way
  pub mid : List Row
  pub step : IsStep part front rows next mid
  pub why : (room < length next) ⊎ BeginsOverrun part back mid
