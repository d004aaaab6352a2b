-- the ways on from the ways so far
use Rattle.std.proofs.Common.{take}
use Rattle.order_runs.specs.Steps.{IsStep}
use Rattle.order_runs.proofs.rows.advance.Given as goal

abbrev pub invariant-loop-way : goal.invariant-loop-way
invariant-loop-way l =
    IsStep l.part (take l.way-index l.layer) l.fn.rows.items l.next.items l.rows.items
