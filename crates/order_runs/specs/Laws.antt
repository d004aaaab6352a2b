-- The orders that begin with some turns are the orders from the moment to which those lead.
use Rattle.std.specs.Prelude.{◌≡◌, ℕ, suc, false, List, [], ◌∷◌, ◌++◌, map, Some}
use Rattle.std.specs.List.{flat_map}
use Rattle.order_outcomes.specs.Orders.{is_order_of, moment_after, moved}
use Rattle.order_outcomes.specs.counts.Orders.{comes_before, is_order, led, rests}
use Rattle.order_outcomes.specs.reports.model.Rounds.{all_tasks}
use Rattle.order_outcomes.specs.reports.model.Scene.{Scene}
use Rattle.order_outcomes.specs.reports.model.Turns.{Moment}
use Rattle.order_runs.specs.Stops.{orders_from}

pub record GoOn (scene : Scene) (first : List ℕ) : Type 0 where
  -- turns after the first ones make an order with them exactly if they are an order from the
  -- moment to which the first ones lead; both lead to one moment
  pub orders : (rest : List ℕ) → is_order_of scene (first ++ rest)
      ≡ is_order (moved scene) (all_tasks scene) (moment_after scene first) rest
  pub leads : (rest : List ℕ) → moment_after scene (first ++ rest)
      ≡ led (moved scene) (moment_after scene first) rest
  -- of two orders that begin so, the one whose rest comes before the other's comes first
  pub before : (a b : List ℕ) → comes_before (first ++ a) (first ++ b) ≡ comes_before a b
  -- if a task can move after the first turns, the orders from there are those that begin with one
  -- turn more, of each task in turn
  pub parts : (m : Moment) (k : ℕ) → moment_after scene first ≡ Some m
      → rests (moved scene) (all_tasks scene) m ≡ false
      → orders_from scene (Some m) (suc k)
      ≡ flat_map (λ n. map (λ turns. n ∷ turns)
      (orders_from scene (moment_after scene (first ++ n ∷ [])) k)) (all_tasks scene)

abbrev pub OrdersGoOn : Type 0
OrdersGoOn = (scene : Scene) (first : List ℕ) → GoOn scene first
