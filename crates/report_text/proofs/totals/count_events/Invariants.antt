-- the events so far, and a bound of their number
use Rattle.std.proofs.Common.{◌≡◌, ◌≤◌, ◌*◌, ◌^◌, take}
use Rattle.report_text.specs.Summary.{event_count}
use Rattle.report_text.proofs.totals.count_events.Given as goal

abbrev pub invariant-loop-inode : goal.invariant-loop-inode
invariant-loop-inode l = record {
  is : l.events ≡ event_count (take l.inode-index l.inodes);
  small : l.events ≤ l.inode-index * 2 ^ 64;
}
