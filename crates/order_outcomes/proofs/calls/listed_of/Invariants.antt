-- the read is still to be found
use Rattle.std.proofs.Common.{◌≡◌, drop}
use Rattle.order_outcomes.specs.Calls.{listed_of}
use Rattle.order_outcomes.proofs.calls.listed_of.Given as goal

abbrev pub invariant-loop-inode : goal.invariant-loop-inode
invariant-loop-inode l =
    listed_of l.list l.task l.call (drop l.inode-index l.inodes)
    ≡ listed_of l.list l.task l.call l.inodes
