use Rattle.std.proofs.Common.{◌≡◌, ◌≤◌, ◌++◌, drop, length}
use Rattle.view_journal.specs.Bars.{own}
use Rattle.view_journal.proofs.bars.own.Given as goal

-- the task's bars so far, and those among the others
abbrev pub invariant-loop-bar : goal.invariant-loop-bar
invariant-loop-bar l = record {
  few : length l.own.items ≤ l.bar-index;
  same : l.own.items ++ own l.task (drop l.bar-index l.bars) ≡ own l.task l.bars;
}
