-- what the events so far say of the file
use Rattle.std.proofs.Common.{take}
use Rattle.inode_events.specs.NewestFirst.{newest_first}
use Rattle.order_sights.specs.Files.{IsSeen}
use Rattle.order_sights.proofs.files.file_seen.Given as goal

abbrev pub invariant-loop-place : goal.invariant-loop-place
invariant-loop-place l = IsSeen l.file (newest_first (take l.place l.journal)) l.seen
