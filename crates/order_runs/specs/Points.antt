-- Turns each of which moves its task, and the run that stops after them.
use Rattle.std.specs.Prelude.{◌≡◌, ℕ, List, [], ◌∷◌, ◌++◌, Option, Some, None}
use Rattle.order_outcomes.specs.Made.{made_of}
use Rattle.order_outcomes.specs.Orders.{left_at, moment_after}
use Rattle.order_outcomes.specs.reports.model.Scene.{Scene}
use Rattle.order_outcomes.specs.reports.model.Turns.{Moment}
use Rattle.order_sights.specs.Sights.{IsSight}
use Rattle.order_runs.specs.declared.points.Point.{Point}

-- the turns lead to this moment, and what is kept of their run is what it has there
pub record IsPointAt (scene : Scene) (at : Moment) (point : Point) : Type 0 where
  pub leads : moment_after scene point.turns ≡ Some at
  pub made : point.made ≡ made_of (left_at scene at)
  pub sight : IsSight scene at point.sight

abbrev pub IsPoint : Scene → Point → Type 0
IsPoint scene point = (at : Moment) × IsPointAt scene at point

-- the point of these turns
abbrev pub IsPointOf : Scene → List ℕ → Point → Type 0
IsPointOf scene turns point = (point.turns ≡ turns) × IsPoint scene point

-- the turn of the task leads to no moment, or on to the longer point
abbrev pub IsMoved : Scene → Point → ℕ → Option Moment → Option Point → Type 0
IsMoved scene point task None None = Unit {0}
IsMoved scene point task (Some m) (Some longer) =
    (longer.turns ≡ point.turns ++ task ∷ []) × IsPointAt scene m longer
IsMoved scene point task _ _ = ⊥
