use Rattle.std.proofs.Common.{ap, sym, ◌∙◌}
use Rattle.report_text.specs.model.events.State.{content}
use Rattle.order_outcomes.specs.Calls.{listed_in}
use Rattle.order_outcomes.proofs.Reading.{content_next, past_all, read_next}
use Rattle.order_outcomes.proofs.Walking.{past_none}
use Rattle.order_outcomes.proofs.calls.listed_in.Goals as goal

pub loop-place-init : goal.loop-place-init
loop-place-init c = record {
  content = c.new-content.ensures ∙ ap content (sym past_none);
  listed = ap (listed_in c.args.list.now c.args.task c.args.call) (sym past_none);
}

pub loop-place-preserved : goal.loop-place-preserved
loop-place-preserved c =
    let k = c.loop-place.place in
    let journal = c.args.journal.now in
    let event = c.index-journal-place.result in
    record {
      content = content_next journal k event c.loop-place.content _ c.loop-place-test.true
          c.index-journal-place.is c.loop-place.invariant.content c.in_ok-follow.ensures;
      listed = read_next c.args.list.now c.args.task c.args.call journal k event
          c.loop-place.content c.split_at.result.0.now c.loop-place.listed _
          c.loop-place-test.true c.index-journal-place.is c.loop-place.invariant.content
          c.split_at.ensures.front c.loop-place.invariant.listed c.listed_at-listed.ensures;
    }

pub returns : goal.returns
returns c =
    c.loop-place.invariant.listed
    ∙ ap (listed_in c.args.list.now c.args.task c.args.call)
    (past_all c.args.journal.now c.loop-place.place c.loop-place-test.false)
