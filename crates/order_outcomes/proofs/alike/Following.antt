-- At moments that are alike the same can follow.
use Rattle.std.proofs.Common.{ℕ, Option, Some, None, refl, subst, inl, inr}
use Rattle.order_counts.specs.Layers.{BothOrNone}
use Rattle.order_outcomes.specs.Orders.{moved}
use Rattle.report_text.specs.model.Scene.{Scene}
use Rattle.report_text.specs.model.Turns.{Moment}
use Rattle.order_outcomes.specs.alike.Alike.{IsAlike, IsRenamed}
use Rattle.order_outcomes.specs.alike.Laws.{AlikeFollows}
use Rattle.order_outcomes.proofs.alike.InodeLaws.{InodeLaws}
use Rattle.order_outcomes.proofs.alike.MomentAlong.{alike_along}
use Rattle.order_outcomes.proofs.alike.MomentEnds.{alike_ends}
use Rattle.order_outcomes.proofs.alike.MomentTasks.{turn_alike, turn_itself}

-- moments whose files have other names are alike
both_alike : (scene : Scene) (o o2 : Option Moment) → BothOrNone (IsRenamed scene) o o2
    → BothOrNone (IsAlike scene) o o2
both_alike scene None None h = tt
both_alike scene None (Some b) h = absurd h
both_alike scene (Some a) None h = absurd h
both_alike scene (Some a) (Some b) h = inr h

-- the same tasks can move at moments that are alike, and lead to moments that are alike
alike_moves : InodeLaws → (scene : Scene) (a b : Moment) → IsAlike scene a b → (n : ℕ)
    → BothOrNone (IsAlike scene) (moved scene a n) (moved scene b n)
alike_moves laws scene a b (inl e) n =
    subst (λ (x : Moment). BothOrNone (IsAlike scene) (moved scene a n) (moved scene x n)) e
    (turn_itself scene (moved scene a n))
alike_moves laws scene a b (inr x) n =
    both_alike scene (moved scene a n) (moved scene b n) (turn_alike laws scene x.0 a b x.1 n)

-- the whole law
pub following : InodeLaws → AlikeFollows
following laws scene = record {
  itself = λ turns a led. inl refl;
  along = alike_along laws scene;
  moves = alike_moves laws scene;
  ends = λ a b alike rests. alike_ends scene a b alike;
}
