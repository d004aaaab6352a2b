-- The laws of moments that are alike.
use Rattle.std.specs.Prelude.{◌≡◌, ℕ, List, Some}
use Rattle.report_text.specs.model.Rounds.{all_tasks}
use Rattle.report_text.specs.model.Scene.{Scene}
use Rattle.report_text.specs.model.Turns.{Moment, start_of}
use Rattle.order_outcomes.specs.Orders.{moment_after, moved, outcome_at}
use Rattle.order_counts.specs.Layers.{AreAlike}
use Rattle.order_outcomes.specs.alike.Alike.{AreSound, IsAlike}

-- at moments that are alike the same tasks can move, and lead to moments that are alike; and if
-- none can move, the outcomes are equal
abbrev pub AlikeFollows : Type 0
AlikeFollows =
    (scene : Scene) → AreAlike (moved scene) (all_tasks scene) (start_of scene) (outcome_at scene)
    (IsAlike scene)

-- the journals of each moment to which turns lead are sound, and its tasks have counted files: of
-- two such moments only the rest has to be compared
abbrev pub ReachedAreSound : Type 0
ReachedAreSound = (scene : Scene) (turns : List ℕ) (a : Moment)
    → moment_after scene turns ≡ Some a → AreSound scene a
