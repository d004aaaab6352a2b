-- The rows of the orders that begin with the same turns.
use Rattle.std.specs.Prelude.{◌≡◌, ℕ, All, List, [], Option, Some, None}
use Rattle.order_outcomes.specs.Orders.{moment_after, moved, outcome_at}
use Rattle.order_outcomes.specs.counts.Rows.{AreRows, Counted}
use Rattle.order_outcomes.specs.reports.model.Rounds.{all_tasks}
use Rattle.order_outcomes.specs.reports.model.Scene.{Scene}
use Rattle.order_outcomes.specs.reports.model.Turns.{Moment}
use Rattle.order_runs.specs.Steps.{AreApart, HasOutcomeFrom, counted_rows}
use Rattle.order_runs.specs.declared.rows.Row.{Row}

-- one row for each outcome that some order from this moment on has
abbrev pub AreRowsFrom : Scene → Option Moment → List Counted → Type 0
AreRowsFrom scene None rows = rows ≡ []
AreRowsFrom scene (Some m) rows =
    AreRows (moved scene) (all_tasks scene) m (outcome_at scene) rows

pub record IsTableFrom (scene : Scene) (from : Option Moment) (rows : List Row) : Type 0 where
  pub rows_of : AreRowsFrom scene from (counted_rows rows)
  pub outcomes : All (HasOutcomeFrom scene from) rows
  pub apart : AreApart rows

-- One row for each outcome that some order of the scene has that begins with these turns. They
-- aren't in the orders of the rows, which go on from them
abbrev pub IsTable : Scene → List ℕ → List Row → Type 0
IsTable scene first rows = IsTableFrom scene (moment_after scene first) rows
