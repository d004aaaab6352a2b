use Rattle.std.proofs.Common.{List, [], length, ◌+◌, ◌<◌, arith, sym, subst}
use Rattle.std.proofs.lemmas.List.{take_all}
use Rattle.order_outcomes.specs.scripts.Limits.{most_turns}
use Rattle.order_runs.specs.Steps.{IsStep, IsWayOf}
use Rattle.order_runs.specs.declared.ways.Way.{Way}
use Rattle.order_runs.proofs.Layering.{step_more, step_none}
use Rattle.order_runs.proofs.Stopping.{overrun, told, wide}
use Rattle.order_runs.proofs.rows.advance.Goals as goal

pub advance_one-requires-clause-kept : goal.advance_one-requires-clause-kept
advance_one-requires-clause-kept c =
    let way : Way = c.way-item.result in
    subst (IsWayOf c.args.part.now) (sym c.way-item.is)
    (c.requires.kept c.loop-way.way-index way c.loop-way-test.true)

pub advance_one-requires-clause-turns : goal.advance_one-requires-clause-turns
advance_one-requires-clause-turns c =
    let way : Way = c.way-item.result in
    subst (λ (w : Way). length w.point.turns < most_turns) (sym c.way-item.is)
    (c.requires.turns c.loop-way.way-index way c.loop-way-test.true)

pub loop-way-init : goal.loop-way-init
loop-way-init c =
    subst (λ (ways : List Way). IsStep c.args.part.now [] c.args.rows.now.items ways
    c.args.rows.now.items) (sym c.new-next.ensures.items)
    (step_none c.args.part.now c.args.rows.now.items)

pub loop-way-preserved : goal.loop-way-preserved
loop-way-preserved c =
    step_more c.args.part.now c.args.layer.now c.loop-way.way-index c.way-item.result
    c.args.rows.now.items c.loop-way.next.items c.loop-way.rows.items
    c.advance_one.new.next.items c.advance_one.new.rows.items c.loop-way-test.true c.way-item.is
    c.loop-way.invariant c.in_ok-advance_one.ensures.advanced

pub returns-clause-step : goal.returns-clause-step
returns-clause-step c =
    subst (λ (ways : List Way). IsStep c.args.part.now ways c.args.rows.now.items
    c.loop-way.next.items c.loop-way.rows.items)
    (take_all c.loop-way.way-index c.args.layer.now c.loop-way-test.false) c.loop-way.invariant

pub returns-in_err-advance_one-clause-too_many : goal.returns-in_err-advance_one-clause-too_many
returns-in_err-advance_one-clause-too_many c =
    told _ _ c.in_err-advance_one.field-0.0 c.from_residual.result
    c.in_err-advance_one.ensures.too_many
    (overrun c.args.part.now c.args.layer.now c.loop-way.way-index c.way-item.result
    c.args.rows.now.items c.args.room c.loop-way.next.items c.loop-way.rows.items
    c.loop-way-test.true c.way-item.is c.loop-way.invariant)
    c.from_residual.ensures.1

pub returns-then-len-room-clause-too_many : goal.returns-then-len-room-clause-too_many
returns-then-len-room-clause-too_many c = λ is.
    wide c.args.part.now c.args.layer.now (c.loop-way.way-index + 1) c.args.rows.now.items
    c.args.room c.advance_one.new.next.items c.advance_one.new.rows.items
    (step_more c.args.part.now c.args.layer.now c.loop-way.way-index c.way-item.result
    c.args.rows.now.items c.loop-way.next.items c.loop-way.rows.items
    c.advance_one.new.next.items c.advance_one.new.rows.items c.loop-way-test.true c.way-item.is
    c.loop-way.invariant c.in_ok-advance_one.ensures.advanced)
    (omega (arith, c.len.ensures, c.if-len-room.true, c.advance_one.new.next.ok.0))
