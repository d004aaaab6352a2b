-- the list has the entries so far
use Rattle.std.proofs.Common.{All, take}
use Rattle.order_outcomes.specs.alike.Alike.{IsIn}
use Rattle.order_sights.proofs.lists.are_in.Given as goal

abbrev pub invariant-loop-entry : goal.invariant-loop-entry
invariant-loop-entry l = All (IsIn l.list) (take l.entry-index l.other)
