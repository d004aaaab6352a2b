use Rattle.std.proofs.Common.{◌≤◌, length}
use Rattle.view_journal.specs.Bars.{IsWalked}
use Rattle.view_journal.proofs.bars.shown_bars.Given as goal

abbrev pub decreases-loop-place : goal.decreases-loop-place
decreases-loop-place l = l.place

-- the walk has come to this place
abbrev pub invariant-loop-place : goal.invariant-loop-place
invariant-loop-place l = record {
  within : l.place ≤ length l.journal;
  few : length l.bars.items ≤ 240;
  walked : IsWalked l.windows l.journal l.place l.drops.items l.bars.items;
}
