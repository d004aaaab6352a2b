use Rattle.std.proofs.Common.{◌≡◌, ℕ, get_or, ap, ◌∙◌, arith}
use Rattle.view_page.specs.journals.Walk.{Walk, shown_by, start, state_of}
use Rattle.view_page.specs.journals.WalkView.{walk_of}
use Rattle.view_page.specs.journals.reading.words.declared.event.Event.{Event}
use Rattle.view_overview.specs.Overview.{bucket_of, bucket_with, filled}
use Rattle.view_overview.proofs.BucketsSteps.{filled_all, filled_next}
use Rattle.view_page.proofs.about_journals.WalkPlaces.{next_at, no_event}
use Rattle.view_overview.proofs.buckets.fill.Goals as goal

pub loop-place-preserved : goal.loop-place-preserved
loop-place-preserved c =
    let w : Walk = walk_of c.loop-place.walk in
    let next : Walk = walk_of c.step.new.self in
    let e : Event = get_or c.args.journal.now c.loop-place.place no_event in
    let shows : c.bucket_of-shown.result ≡ bucket_of e (state_of next)
    = c.bucket_of-shown.ensures
    ∙ (ap (bucket_with c.in_ok-rank.field-0) c.state.ensures
    ∙ ap (λ (r : ℕ). bucket_with r (state_of next)) c.in_ok-rank.ensures) in
    record {
      at = next_at c.loop-place.place w next e c.in_ok-step.ensures c.loop-place.invariant.at
          (omega (arith, c.loop-place-test.true, c.requires.few));
      same = filled_next c.args.scale c.args.journal.now c.loop-place.place c.bucket_at.result
          no_event w next c.loop-place.buckets c.raise.new.buckets
          (filled c.args.scale c.args.buckets.now 0 c.args.journal.now
          (shown_by start c.args.journal.now)) c.bucket_of-shown.result c.loop-place-test.true
          c.in_ok-step.ensures c.bucket_at.ensures.is shows c.raise.ensures
          c.loop-place.invariant.same;
    }

pub returns : goal.returns
returns c =
    filled_all c.args.scale c.args.journal.now c.loop-place.place (walk_of c.loop-place.walk)
    c.loop-place.buckets c.args.buckets.now (omega arith) c.loop-place.invariant.same
