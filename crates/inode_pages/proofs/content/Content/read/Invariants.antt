use Rattle.std.proofs.Common.{◌≡◌, ◌-◌, ◌≤◌, ◌++◌, length, drop}
use Rattle.inode_pages.specs.Content.{bytes_at}
use Rattle.inode_pages.proofs.content.Content.read.Given as goal

abbrev pub decreases-loop-done : goal.decreases-loop-done
decreases-loop-done l = length l.buf - l.done

abbrev pub invariant-loop-done : goal.invariant-loop-done
invariant-loop-done l = record {
  bytes : l.buf ≡ bytes_at l.self l.from l.done ++ drop l.done l.initial.buf;
  whole : length (bytes_at l.self l.from l.done) ≡ l.done;
  within : l.done ≤ length l.buf;
}
