-- The laws of the orders of scripts.
use Rattle.std.specs.Prelude.{◌≡◌, ◌↔◌, ℕ, true, false, List, Some, option_map}
use Rattle.report_text.specs.model.EndedValue.{ended_of}
use Rattle.report_text.specs.model.Rounds.{IsRunOf, moves}
use Rattle.report_text.specs.model.Scene.{Scene}
use Rattle.report_text.specs.model.Served.{Run}
use Rattle.report_text.specs.model.Turns.{Moment, turn}
use Rattle.report_text.specs.model.steps.declared.ending.Ending.TheVariants as ending
use Rattle.order_outcomes.specs.Made.{made_of}
use Rattle.order_outcomes.specs.Orders.{is_order_of, left_at, moment_after, outcome_at}
use Rattle.order_outcomes.specs.Outcome.{outcome_of}

-- the run whose schedule is an order has the outcome of the order
abbrev pub ScheduleHasOutcome : Type 0
ScheduleHasOutcome =
    (scene : Scene) (turns : List ℕ) (run : Run) → is_order_of scene turns ≡ true
    → IsRunOf scene (ending.Schedule turns) run
    → option_map (outcome_at scene) (moment_after scene turns)
    ≡ Some (outcome_of (ended_of scene run))

-- A turn that doesn't move its task leaves as many events and replies as there were, and one that
-- moves it leaves more
abbrev pub MadeTells : Type 0
MadeTells =
    (scene : Scene) (turns : List ℕ) (m : Moment) (n : ℕ) → moment_after scene turns ≡ Some m
    → ((made_of (left_at scene (turn scene m n)) ≡ made_of (left_at scene m))
    ↔ (moves scene m n ≡ false))
