use Rattle.std.proofs.Common.{Option, refl, subst}
use Rattle.order_outcomes.specs.Orders.{moved}
use Rattle.order_runs.specs.Points.{IsMoved}
use Rattle.order_runs.specs.declared.points.Point.{Point}
use Rattle.order_runs.proofs.Stepping.{longer_none, longer_some}
use Rattle.order_runs.proofs.ways.lengthened.Goals as goal

pub turned-requires-clause-point : goal.turned-requires-clause-point
turned-requires-clause-point c = (c.requires.kept.at, c.requires.kept.point)

pub returns-in-None : goal.returns-in-None
returns-in-None c =
    let play = c.args.part.now.play in
    let k = c.requires.kept in
    longer_none c.args.part.now c.args.way.now k c.args.task
    (subst (λ (o : Option Point). IsMoved play c.args.way.now.point c.args.task
    (moved play k.at c.args.task) o) c.in-None.is (c.in_ok-point.ensures k.at k.point.leads))

pub returns-in_ok-counted-in-Some : goal.returns-in_ok-counted-in-Some
returns-in_ok-counted-in-Some c =
    let play = c.args.part.now.play in
    let k = c.requires.kept in
    longer_some c.args.part.now c.args.way.now k c.args.task c.in-Some.point
    (subst (λ (o : Option Point). IsMoved play c.args.way.now.point c.args.task
    (moved play k.at c.args.task) o) c.in-Some.is (c.in_ok-point.ensures k.at k.point.leads))
    (record { counted = c.in_ok-counted-in-Some.counted; point = c.in-Some.point })
    c.in_ok-counted-in-Some.ensures refl
