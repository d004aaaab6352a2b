use Rattle.std.proofs.Common.{ap, sym, ◌∙◌}
use Rattle.order_outcomes.specs.Calls.{is_listed}
use Rattle.order_outcomes.proofs.Reading.{listed_next, past_all}
use Rattle.order_outcomes.proofs.Walking.{past_none}
use Rattle.order_outcomes.proofs.calls.is_listed.Goals as goal

pub loop-event-init : goal.loop-event-init
loop-event-init c = ap (is_listed c.args.list.now c.args.content.now) (sym past_none)

pub loop-event-preserved : goal.loop-event-preserved
loop-event-preserved c =
    listed_next c.args.list.now c.args.content.now c.args.before.now c.loop-event.event-index
    c.event-item.result c.loop-event.listed _ c.loop-event-test.true c.event-item.is
    c.loop-event.invariant c.listed_with-listed.ensures

pub returns : goal.returns
returns c =
    c.loop-event.invariant
    ∙ ap (is_listed c.args.list.now c.args.content.now)
    (past_all c.args.before.now c.loop-event.event-index c.loop-event-test.false)
