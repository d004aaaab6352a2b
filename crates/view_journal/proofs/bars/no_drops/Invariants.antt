use Rattle.std.proofs.Common.{◌≡◌, ◌-◌, ◌≤◌, ℕ, length, get_or}
use Rattle.view_journal.proofs.bars.no_drops.Given as goal

abbrev pub decreases-loop-drops : goal.decreases-loop-drops
decreases-loop-drops l = l.events - length l.drops.items

-- no drop so far
abbrev pub invariant-loop-drops : goal.invariant-loop-drops
invariant-loop-drops l = record {
  few : length l.drops.items ≤ l.events;
  none : (f : ℕ) → get_or l.drops.items f 0 ≡ 0;
}
