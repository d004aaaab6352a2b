-- the places that the events so far report
use Rattle.std.proofs.Common.{◌≡◌, take}
use Rattle.std.specs.Prelude.{reverse}
use Rattle.inode_events.specs.NewestFirst.{newest_first}
use Rattle.order_outcomes.specs.alike.Alike.{places_in}
use Rattle.order_told.proofs.told.places_in.Given as goal

abbrev pub invariant-loop-event : goal.invariant-loop-event
invariant-loop-event l =
    reverse l.places.items ≡ places_in (newest_first (take l.event-index l.journal))
