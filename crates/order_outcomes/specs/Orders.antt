-- The orders in which the steps of a script's tasks can fall.
use Rattle.std.specs.Prelude.{ℕ, Bool, List, Option, Some, None, if◌then◌else◌}
use Rattle.order_counts.specs.Orders.{is_order, led, orders}
use Rattle.order_counts.specs.Rows.{AreRows, Counted}
use Rattle.report_text.specs.model.EndedValue.{EndedValue, ended_of}
use Rattle.report_text.specs.model.Rounds.{all_tasks, moves}
use Rattle.report_text.specs.model.Scene.{Scene}
use Rattle.report_text.specs.model.Turns.{Moment, run_at, start_of, turn}
use Rattle.order_outcomes.specs.Outcome.{outcome_of}

-- the moment after a turn of the task, if the turn moves it
abbrev pub moved : Scene → Moment → ℕ → Option Moment
moved scene m n = if moves scene m n then Some (turn scene m n) else None

-- the turns are an order: each moves its task, and after the last no task can move
abbrev pub is_order_of : Scene → List ℕ → Bool
is_order_of scene turns =
    is_order (moved scene) (all_tasks scene) (Some (start_of scene)) turns

-- the orders of at most k turns
abbrev pub orders_of : Scene → ℕ → List (List ℕ)
orders_of scene k = orders (moved scene) (all_tasks scene) k (Some (start_of scene))

-- the moment to which these turns lead, if each moves its task
abbrev pub moment_after : Scene → List ℕ → Option Moment
moment_after scene turns = led (moved scene) (Some (start_of scene)) turns

-- the state that the run leaves if it stops at the moment
abbrev pub left_at : Scene → Moment → EndedValue
left_at scene m = ended_of scene (run_at m)

-- the outcome of that run
abbrev pub outcome_at : Scene → Moment → List ℕ
outcome_at scene m = outcome_of (left_at scene m)

-- one row for each outcome that some order has
abbrev pub AreRowsOf : Scene → List Counted → Type 0
AreRowsOf scene rows =
    AreRows (moved scene) (all_tasks scene) (start_of scene) (outcome_at scene) rows
