use Rattle.std.proofs.Common.{List, ℕ, Option, ap, arith, get_or, length, refl, subst, sym, ◌∙◌}
use Rattle.std.proofs.lemmas.List.{length-take-le, take_all}
use Rattle.order_outcomes.specs.Orders.{moved}
use Rattle.order_runs.specs.Points.{IsMoved, IsPointOf}
use Rattle.order_runs.specs.Plays.{IsSchedule, moment_by}
use Rattle.order_runs.specs.declared.points.Point.{Point}
use Rattle.order_sights.specs.Sights.{IsSight}
use Rattle.order_runs.proofs.Pointing.{leads_nowhere, none_fits, point_on, start_point}
use Rattle.order_runs.proofs.points.reached.Goals as goal

pub stopped-requires : goal.stopped-requires
stopped-requires c =
    subst (IsSchedule c.args.play.now) (sym c.new.ensures) (none_fits c.args.play.now)

pub turned_by-requires-clause-point : goal.turned_by-requires-clause-point
turned_by-requires-clause-point c = c.loop-task.invariant.1

pub turned_by-requires-clause-turns : goal.turned_by-requires-clause-turns
turned_by-requires-clause-turns c =
    let so_far = ap length c.loop-task.invariant.0 in
    let long = length-take-le c.loop-task.task-index c.args.turns.now (omega arith) in
    omega (arith, so_far, long, c.requires, c.loop-task-test.true)

pub loop-task-init : goal.loop-task-init
loop-task-init c =
    start_point c.args.play.now c.in_ok-point.point
    (c.in_ok-point.ensures.turns ∙ c.new.ensures) c.in_ok-point.ensures.made
    (subst (λ (turns : List ℕ). IsSight c.args.play.now (moment_by c.args.play.now turns)
    c.in_ok-point.point.sight) c.new.ensures c.in_ok-point.ensures.sight)

pub loop-task-preserved : goal.loop-task-preserved
loop-task-preserved c =
    let n : ℕ = get_or c.args.turns.now c.loop-task.task-index 0 in
    let at = c.loop-task.invariant.1 in
    point_on c.args.play.now c.args.turns.now c.loop-task.task-index n c.loop-task.point
    c.in-Some.longer (moved c.args.play.now at.0 n) c.loop-task-test.true refl
    c.loop-task.invariant.0
    (subst (λ (o : Option Point). IsMoved c.args.play.now c.loop-task.point n
    (moved c.args.play.now at.0 n) o) c.in-Some.is (c.in_ok-longer.ensures at.0 at.1.leads))

pub returns : goal.returns
returns c =
    subst (λ (turns : List ℕ). IsPointOf c.args.play.now turns c.loop-task.point)
    (take_all c.loop-task.task-index c.args.turns.now c.loop-task-test.false)
    c.loop-task.invariant

pub returns-in-None : goal.returns-in-None
returns-in-None c =
    let n : ℕ = get_or c.args.turns.now c.loop-task.task-index 0 in
    let at = c.loop-task.invariant.1 in
    leads_nowhere c.args.play.now c.args.turns.now c.loop-task.task-index n c.loop-task.point
    c.loop-task-test.true refl at c.loop-task.invariant.0
    (subst (λ (o : Option Point). IsMoved c.args.play.now c.loop-task.point n
    (moved c.args.play.now at.0 n) o) c.in-None.is (c.in_ok-longer.ensures at.0 at.1.leads))
