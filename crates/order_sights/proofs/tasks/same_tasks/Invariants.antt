-- the tasks so far are the same, with files that are pairs
use Rattle.task_core.specs.worlds.Runs.{position_of}
use Rattle.order_sights.specs.Pairs.{AreTwo, IsPositionPaired}
use Rattle.order_sights.proofs.tasks.same_tasks.Given as goal

abbrev pub invariant-loop-k : goal.invariant-loop-k
invariant-loop-k l =
    AreTwo (λ t u. IsPositionPaired l.pairs (position_of t) (position_of u)) l.a l.b l.k
