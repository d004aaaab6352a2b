-- the verdict is still to be found
use Rattle.std.proofs.Common.{◌≡◌, drop}
use Rattle.order_outcomes.specs.Calls.{verdict_in}
use Rattle.order_outcomes.proofs.calls.verdict_in.Given as goal

abbrev pub invariant-loop-event : goal.invariant-loop-event
invariant-loop-event l =
    verdict_in l.task l.call (drop l.event-index l.journal) ≡ verdict_in l.task l.call l.journal
