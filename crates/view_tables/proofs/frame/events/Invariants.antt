use Rattle.std.proofs.Common.{◌≡◌, drop}
use Rattle.view_tables.specs.Frame.{events, events_from}
use Rattle.view_tables.proofs.frame.events.Given as goal

abbrev pub invariant-loop-inode : goal.invariant-loop-inode
invariant-loop-inode l = events_from l.n (drop l.inode-index l.inodes) ≡ events l.inodes
