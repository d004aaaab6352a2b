-- the lines of the entries so far
use Rattle.std.proofs.Common.{◌≡◌, take}
use Rattle.order_outcomes.specs.Outcome.{lines_of}
use Rattle.order_outcomes.proofs.lines.lines_of.Given as goal

abbrev pub invariant-loop-entry : goal.invariant-loop-entry
invariant-loop-entry l =
    l.lines.items ≡ lines_of l.kind (take l.entry-index l.list)
