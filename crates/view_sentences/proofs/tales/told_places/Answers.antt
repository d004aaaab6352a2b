use Rattle.std.proofs.Common.{◌≡◌, ℕ, List, Bool, get_or, length, ap, ◌∙◌, arith}
use Rattle.view_page.specs.journals.Walk.{Walk, shown_by, start, state_of}
use Rattle.view_page.specs.journals.WalkView.{walk_of}
use Rattle.view_page.specs.journals.reading.words.declared.event.Event.{Event}
use Rattle.view_sentences.specs.Sentences.{is_told, told_from}
use Rattle.view_sentences.proofs.TalesSteps.{all_count, all_places, counted_small, kept_few, tales_count, tales_places}
use Rattle.view_page.proofs.about_journals.WalkPlaces.{next_at, no_event}
use Rattle.view_sentences.proofs.tales.told_places.Goals as goal

pub loop-place-preserved : goal.loop-place-preserved
loop-place-preserved c =
    let i : ℕ = c.loop-place.place in
    let w : Walk = walk_of c.loop-place.walk in
    let next : Walk = walk_of c.step.new.self in
    let e : Event = get_or c.args.journal.now i no_event in
    let t : Bool = c.is_told-told.result in
    let all : List ℕ = told_from 0 c.args.journal.now (shown_by start c.args.journal.now) in
    let tells : t ≡ is_told e (state_of next)
    = c.is_told-told.ensures ∙ ap (is_told e) c.state.ensures in
    record {
      at = next_at i w next e c.in_ok-step.ensures c.loop-place.invariant.at
          (omega (arith, c.loop-place-test.true, c.requires));
      few = kept_few t c.loop-place.places.items c.keep.new.places.items i c.in_ok-keep.ensures
          c.loop-place.invariant.few;
      small = omega (
        arith,
        c.counted-n.ensures,
        counted_small t c.loop-place.n i c.loop-place.invariant.small,
      );
      places = tales_places c.args.journal.now i no_event w next t c.loop-place.places.items
          c.keep.new.places.items all c.loop-place-test.true c.in_ok-step.ensures tells
          c.in_ok-keep.ensures c.loop-place.invariant.places;
      count = tales_count c.args.journal.now i no_event w next t c.loop-place.n
          c.counted-n.result (length all) c.loop-place-test.true c.in_ok-step.ensures tells
          c.counted-n.ensures c.loop-place.invariant.count;
    }

pub returns-clause-places : goal.returns-clause-places
returns-clause-places c =
    all_places c.args.journal.now c.loop-place.place (walk_of c.loop-place.walk)
    c.loop-place.places.items (omega arith) c.loop-place.invariant.few
    c.loop-place.invariant.places

pub returns-clause-count : goal.returns-clause-count
returns-clause-count c =
    all_count c.args.journal.now c.loop-place.place (walk_of c.loop-place.walk) c.loop-place.n
    (omega arith) c.loop-place.invariant.count
