use Rattle.std.proofs.Common.{length}
use Rattle.world_start.specs.Started.{AreGathered}
use Rattle.world_start.proofs.gathering.gather.Given as goal

abbrev pub invariant-loop-own : goal.invariant-loop-own
invariant-loop-own l = AreGathered l.fn.columns l.columns l.passes.items

abbrev pub decreases-loop-own : goal.decreases-loop-own
decreases-loop-own l = length l.columns.rows
