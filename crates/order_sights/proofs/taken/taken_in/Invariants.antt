-- the content after the events so far, and what their open collection has taken
use Rattle.std.proofs.Common.{◌≡◌, take}
use Rattle.inode_events.specs.NewestFirst.{newest_first}
use Rattle.inode_events.specs.State.{content}
use Rattle.order_sights.specs.Taken.{taken}
use Rattle.order_sights.proofs.taken.taken_in.Given as goal

abbrev pub invariant-loop-event : goal.invariant-loop-event
invariant-loop-event l = record {
  content : l.content ≡ content (newest_first (take l.event-index l.journal));
  taken : l.taken ≡ taken (newest_first (take l.event-index l.journal));
}
