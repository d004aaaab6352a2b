use Rattle.std.proofs.Common.{◌≡◌, ◌+◌, ◌-◌, ◌<◌, ◌∙◌, All, List, [], ◌∷◌, length, arith, ap, sym, subst, eqb-true}
use Rattle.std.proofs.lemmas.List.{nil_from_length}
use Rattle.order_outcomes.specs.scripts.Limits.{most_turns}
use Rattle.order_runs.specs.Steps.{IsLayer, IsStep, counted_ways}
use Rattle.order_runs.specs.declared.rows.Row.{Row}
use Rattle.order_runs.specs.declared.ways.Way.{Way}
use Rattle.order_outcomes.specs.counts.Rows.{Counted}
use Rattle.order_runs.proofs.Layering.{layer_first, layer_next, layer_short, table}
use Rattle.order_runs.proofs.Stopping.{IsCounting, counting_first, counting_next, crowds, nonzero, table_is, told, too_long, too_many_is, too_wide}
use Rattle.order_runs.proofs.Stepping.{opens}
use Rattle.order_runs.proofs.rows.rows_from.Goals as goal

pub advance-requires-clause-turns : goal.advance-requires-clause-turns
advance-requires-clause-turns c =
    subst (λ (ways : List Way). All (λ (w : Way). length w.point.turns < most_turns) ways)
    (sym c.as_slice.ensures.value)
    (layer_short c.args.part.now c.loop-turn.turn c.loop-turn.layer.items
    c.loop-turn.rows.items c.loop-turn.invariant.at
    (omega (arith, c.loop-turn-test.true, c.turns_left-more.ensures)))

pub loop-turn-init : goal.loop-turn-init
loop-turn-init c =
    let part = c.args.part.now in
    let way = c.args.way in
    subst (λ (rows : List Row). IsCounting part c.args.most 0 c.in_ok-layer.layer.items rows
    c.args.most) (sym c.new-rows.ensures.items)
    (counting_first part c.args.most c.in_ok-layer.layer.items
    (subst (λ (ways : List Way). IsLayer part 0 ways []) (sym c.in_ok-layer.ensures)
    (layer_first part way c.requires.root))
    (ap counted_ways c.in_ok-layer.ensures
    ∙ ap (λ (x : Counted). x ∷ []) c.requires.root.0))

pub loop-turn-preserved : goal.loop-turn-preserved
loop-turn-preserved c =
    counting_next c.args.part.now c.args.most c.loop-turn.turn c.loop-turn.layer.items
    c.loop-turn.rows.items c.loop-turn.room c.loop-turn.invariant
    (c.loop-turn.room - c.len-room.result)
    (omega (arith, c.if-room-len.false, c.len.ensures, c.len-room.ensures, c.loop-turn.layer.ok.0))
    c.in_ok-layer-2.layer.items c.advance.new.rows.items
    (subst (λ (ways : List Way). IsStep c.args.part.now ways c.loop-turn.rows.items
    c.in_ok-layer-2.layer.items c.advance.new.rows.items) c.as_slice.ensures.value
    c.in_ok-layer-2.ensures.step)
    (omega (
      arith,
      nonzero c.in_ok-layer-2.layer.len (sym c.is_empty.ensures ∙ c.if-is_empty.false),
      c.in_ok-layer-2.layer.ok.0,
    ))

pub returns-then-is_empty-clause-rows : goal.returns-then-is_empty-clause-rows
returns-then-is_empty-clause-rows c =
    let empty : c.in_ok-layer-2.layer.items ≡ [] =
    nil_from_length c.in_ok-layer-2.layer.items (sym c.in_ok-layer-2.layer.ok.0
    ∙ eqb-true c.in_ok-layer-2.layer.len 0 (sym c.is_empty.ensures ∙ c.if-is_empty.true)) in
    table_is c.args.part.now c.advance.new.rows.items
    (opens c.args.part.now c.args.way c.requires.root)
    (table c.args.part.now (c.loop-turn.turn + 1) c.advance.new.rows.items
    (subst (λ (ways : List Way). IsLayer c.args.part.now (c.loop-turn.turn + 1) ways
    c.advance.new.rows.items) empty
    (layer_next c.args.part.now c.loop-turn.turn c.loop-turn.layer.items c.loop-turn.rows.items
    c.in_ok-layer-2.layer.items c.advance.new.rows.items c.loop-turn.invariant.at
    (subst (λ (ways : List Way). IsStep c.args.part.now ways c.loop-turn.rows.items
    c.in_ok-layer-2.layer.items c.advance.new.rows.items) c.as_slice.ensures.value
    c.in_ok-layer-2.ensures.step))))

pub returns-then-room-len-clause-too_many : goal.returns-then-room-len-clause-too_many
returns-then-room-len-clause-too_many c = λ is.
    too_many_is c.args.part.now c.args.most (opens c.args.part.now c.args.way c.requires.root)
    (too_wide c.args.part.now c.args.most c.loop-turn.turn c.loop-turn.layer.items
    c.loop-turn.rows.items c.loop-turn.room c.loop-turn.invariant
    (omega (arith, c.if-room-len.true, c.len.ensures, c.loop-turn.layer.ok.0)))

pub returns-in_err-layer-2-clause-too_many : goal.returns-in_err-layer-2-clause-too_many
returns-in_err-layer-2-clause-too_many c =
    told _ _ c.in_err-layer-2.field-0.0 c.from_residual-in_err-layer-2.result
    c.in_err-layer-2.ensures.too_many
    (λ x. too_many_is c.args.part.now c.args.most
    (opens c.args.part.now c.args.way c.requires.root)
    (crowds c.args.part.now c.args.most c.loop-turn.turn c.loop-turn.layer.items
    c.as_slice.result.now c.loop-turn.rows.items c.loop-turn.room
    (c.loop-turn.room - c.len-room.result) c.loop-turn.invariant x c.as_slice.ensures.value
    (omega (
      arith,
      c.if-room-len.false,
      c.len.ensures,
      c.len-room.ensures,
      c.loop-turn.layer.ok.0,
    ))))
    c.from_residual-in_err-layer-2.ensures.1

pub returns-clause-too_many : goal.returns-clause-too_many
returns-clause-too_many c = λ is.
    too_many_is c.args.part.now c.args.most (opens c.args.part.now c.args.way c.requires.root)
    (too_long c.args.part.now c.args.most c.loop-turn.turn c.loop-turn.layer.items
    c.loop-turn.rows.items c.loop-turn.room c.loop-turn.invariant
    (omega (
      arith,
      c.loop-turn-test.false,
      c.loop-turn.auto.turn-end,
      c.turns_left-more.ensures,
    )))
