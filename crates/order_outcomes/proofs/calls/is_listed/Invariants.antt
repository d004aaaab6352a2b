-- whether the events so far list the content
use Rattle.std.proofs.Common.{◌≡◌, take}
use Rattle.report_text.specs.model.events.NewestFirst.{newest_first}
use Rattle.order_outcomes.specs.Calls.{is_listed}
use Rattle.order_outcomes.proofs.calls.is_listed.Given as goal

abbrev pub invariant-loop-event : goal.invariant-loop-event
invariant-loop-event l =
    l.listed ≡ is_listed l.list l.content (newest_first (take l.event-index l.before))
