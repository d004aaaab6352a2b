use Rattle.std.proofs.Common.{ℕ, List, ap, ◌∙◌}
use Rattle.std.specs.Prelude.{reverse}
use Rattle.order_outcomes.specs.alike.Alike.{places_in}
use Rattle.order_told.proofs.Telling.{places_next, places_none}
use Rattle.order_told.proofs.Walks.{past_all}
use Rattle.order_told.proofs.told.places_in.Goals as goal

pub loop-event-init : goal.loop-event-init
loop-event-init c = ap (λ (ps : List ℕ). reverse ps) c.new-places.ensures.items ∙ places_none

pub loop-event-preserved : goal.loop-event-preserved
loop-event-preserved c =
    places_next c.args.journal.now c.loop-event.event-index c.event-item.result
    c.loop-event.places.items c.push_place.new.places.items c.place_told.result
    c.loop-event-test.true c.event-item.is c.loop-event.invariant c.place_told.ensures
    c.in_ok-push_place.ensures

pub returns : goal.returns
returns c =
    c.loop-event.invariant
    ∙ ap places_in (past_all c.args.journal.now c.loop-event.event-index c.loop-event-test.false)
