use Rattle.std.proofs.Common.{◌≡◌, ◌∙◌, Bool, true, false, if◌then◌else◌, List, None, Some, ℕ, refl, sym, subst}
use Rattle.std.specs.Bool.{then_some}
use Rattle.order_runs.specs.Plays.{IsSchedule, moment_by}
use Rattle.order_sights.specs.Sights.{IsSight}
use Rattle.order_runs.proofs.Pointing.{more_fits, moved_unless}
use Rattle.order_runs.proofs.points.turned.Goals as goal

chosen : {X : Type 0} (b : Bool) (x : X) → then_some b x ≡ (if b then Some x else None)
chosen true x = refl
chosen false x = refl

pub stopped-requires : goal.stopped-requires
stopped-requires c =
    subst (IsSchedule c.args.play.now) (sym c.in_ok-turns.ensures)
    (more_fits c.args.play.now c.args.point.now c.requires.point c.args.task c.requires.task
    c.requires.turns)

pub returns : goal.returns
returns c = λ m leads.
    moved_unless c.args.play.now c.args.point.now c.requires.point c.args.task
    c.in_ok-longer.longer (c.in_ok-longer.ensures.turns ∙ c.in_ok-turns.ensures)
    c.in_ok-longer.ensures.made
    (subst (λ (turns : List ℕ). IsSight c.args.play.now (moment_by c.args.play.now turns)
    c.in_ok-longer.longer.sight) c.in_ok-turns.ensures c.in_ok-longer.ensures.sight)
    m leads c.is_same-moves.result c.is_same-moves.ensures c.then_some.result
    (c.then_some.ensures ∙ chosen _ c.in_ok-longer.longer)
