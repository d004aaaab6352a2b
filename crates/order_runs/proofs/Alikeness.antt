-- Alike moments, whatever moment the orders begin from.
use Rattle.std.proofs.Common.{inl, refl}
use Rattle.order_outcomes.proofs.alike.Following.{following}
use Rattle.order_outcomes.proofs.alike.Inodes.{inode_laws}
use Rattle.order_outcomes.specs.alike.Alike.{IsAlike}
use Rattle.order_outcomes.specs.Orders.{moved, outcome_at}
use Rattle.order_outcomes.specs.counts.Layers.{AreAlike}
use Rattle.order_outcomes.specs.reports.model.Rounds.{all_tasks}
use Rattle.order_outcomes.specs.reports.model.Scene.{Scene}
use Rattle.order_outcomes.specs.reports.model.Turns.{Moment, start_of}

-- at moments that are alike the same can follow
pub alike_from : (scene : Scene) (m : Moment)
    → AreAlike (moved scene) (all_tasks scene) m (outcome_at scene) (IsAlike scene)
alike_from scene m =
    let from_start : AreAlike (moved scene) (all_tasks scene) (start_of scene) (outcome_at scene)
    (IsAlike scene) = following inode_laws scene in
    record {
      itself = λ turns a leads. inl refl;
      along = from_start.along;
      moves = from_start.moves;
      ends = from_start.ends;
    }
