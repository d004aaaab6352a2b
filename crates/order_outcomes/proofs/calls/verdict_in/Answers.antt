use Rattle.std.proofs.Common.{refl, sym, ◌∙◌}
use Rattle.order_outcomes.specs.Calls.{verdict_by, verdict_in}
use Rattle.order_outcomes.proofs.Walking.{or_end, or_more}
use Rattle.order_outcomes.proofs.calls.verdict_in.Goals as goal

pub loop-event-preserved : goal.loop-event-preserved
loop-event-preserved c =
    or_more (verdict_in c.args.task c.args.call) (verdict_by c.args.task c.args.call)
    c.args.journal.now c.loop-event.event-index c.loop-event.invariant c.event-item.result _
    (λ y ys. refl) c.loop-event-test.true c.event-item.is
    (sym c.in_default.is ∙ c.verdict_by.ensures)

pub returns-in-Some : goal.returns-in-Some
returns-in-Some c =
    or_more (verdict_in c.args.task c.args.call) (verdict_by c.args.task c.args.call)
    c.args.journal.now c.loop-event.event-index c.loop-event.invariant c.event-item.result _
    (λ y ys. refl) c.loop-event-test.true c.event-item.is
    (sym c.in-Some.is ∙ c.verdict_by.ensures)

pub returns : goal.returns
returns c =
    or_end (verdict_in c.args.task c.args.call) (verdict_by c.args.task c.args.call)
    c.args.journal.now c.loop-event.event-index c.loop-event.invariant c.loop-event-test.false
