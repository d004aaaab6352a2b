use Rattle.std.proofs.Common.{ap, sym, ◌∙◌}
use Rattle.inode_events.specs.State.{content}
use Rattle.order_sights.specs.Taken.{taken}
use Rattle.order_sights.proofs.Taking.{content_more, taken_further}
use Rattle.order_outcomes.proofs.Walking.{past_none}
use Rattle.order_told.proofs.Walks.{past_all}
use Rattle.order_sights.proofs.taken.taken_in.Goals as goal

pub loop-event-init : goal.loop-event-init
loop-event-init c = record {
  content = c.new-content.ensures ∙ ap content (sym past_none);
  taken = c.new-taken.ensures ∙ ap taken (sym past_none);
}

pub loop-event-preserved : goal.loop-event-preserved
loop-event-preserved c =
    let k = c.loop-event.event-index in
    let journal = c.args.journal.now in
    let event = c.event-item.result in
    record {
      content = content_more journal k event c.loop-event.content _ c.loop-event-test.true
          c.event-item.is c.loop-event.invariant.content c.in_ok-follow.ensures;
      taken = taken_further journal k event c.loop-event.content c.loop-event.taken _
          c.loop-event-test.true c.event-item.is c.loop-event.invariant.content
          c.loop-event.invariant.taken c.in_ok-advance.ensures;
    }

pub returns : goal.returns
returns c =
    c.loop-event.invariant.taken
    ∙ ap taken (past_all c.args.journal.now c.loop-event.event-index c.loop-event-test.false)
