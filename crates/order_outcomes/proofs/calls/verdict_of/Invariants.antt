-- the verdict is still to be found
use Rattle.std.proofs.Common.{◌≡◌, drop}
use Rattle.order_outcomes.specs.Calls.{verdict_of}
use Rattle.order_outcomes.proofs.calls.verdict_of.Given as goal

abbrev pub invariant-loop-inode : goal.invariant-loop-inode
invariant-loop-inode l =
    verdict_of l.task l.call (drop l.inode-index l.inodes) ≡ verdict_of l.task l.call l.inodes
