use Rattle.std.proofs.Common.{ℕ, ◌+◌, List, drop, get_or, ap, sym, ◌∙◌, arith}
use Rattle.std.proofs.lemmas.List.{at_drop_all, at_drop_more}
use Rattle.view_page.specs.journals.Walk.{Walk}
use Rattle.view_page.specs.journals.WalkView.{walk_of}
use Rattle.view_page.specs.journals.reading.words.declared.event.Event.{Event}
use Rattle.view_page.proofs.about_journals.WalkPlaces.{next_at, no_event}
use Rattle.view_sentences.specs.Holders.{walked_all}
use Rattle.view_sentences.proofs.holders.walked.Goals as goal

pub loop-event-preserved : goal.loop-event-preserved
loop-event-preserved c =
    let i : ℕ = c.loop-event.event-index in
    let w : Walk = walk_of c.loop-event.walk in
    let next : Walk = walk_of c.step.new.self in
    let journal : List Event = c.args.journal.now in
    record {
      at = next_at i w next (get_or journal i no_event) c.in_ok-step.ensures
          c.loop-event.invariant.at (omega (arith, c.loop-event-test.true, c.requires));
      same = ap (λ (x : Walk). walked_all x (drop (i + 1) journal)) c.in_ok-step.ensures
          ∙ (sym (at_drop_more (walked_all w) journal i no_event c.loop-event-test.true)
          ∙ c.loop-event.invariant.same);
    }

pub returns : goal.returns
returns c =
    sym (at_drop_all (walked_all (walk_of c.loop-event.walk)) c.args.journal.now
    c.loop-event.event-index (omega arith))
    ∙ c.loop-event.invariant.same
