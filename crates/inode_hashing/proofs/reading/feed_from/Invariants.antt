use Rattle.std.proofs.Common.{◌≡◌, ℕ, ◌-◌, ◌≤◌, List, ◌++◌}
use Rattle.hash_algos.specs.Running.{HasTaken, running_algo}
use Rattle.inode_pages.specs.Content.{bytes_at}
use Rattle.inode_hashing.proofs.reading.feed_from.Given as goal

abbrev pub decreases-loop-done : goal.decreases-loop-done
decreases-loop-done l = l.count - l.done

-- the bytes so far are fed
abbrev pub invariant-loop-done : goal.invariant-loop-done
invariant-loop-done l = record {
  within : l.done ≤ l.count;
  algo : running_algo l.running ≡ running_algo l.initial.running;
  taken : (m : List ℕ) → HasTaken l.initial.running m
      → HasTaken l.running (m ++ bytes_at l.content l.from l.done);
}
