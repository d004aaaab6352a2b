-- the inodes say the same of the calls of the events so far
use Rattle.std.proofs.Common.{All, take}
use Rattle.order_told.specs.Told.{IsCallSame}
use Rattle.order_told.proofs.told.same_calls.Given as goal

abbrev pub invariant-loop-event : goal.invariant-loop-event
invariant-loop-event l = All (IsCallSame l.list l.other l.a l.b) (take l.event-index l.journal)
