use Rattle.std.proofs.Common.{◌≡◌, ◌≤◌, ◌++◌, drop}
use Rattle.view_journal.specs.Windows.{grown, windows_around}
use Rattle.view_journal.proofs.window.windows_around.Given as goal

-- the windows so far, and those from the last one on
abbrev pub invariant-loop-place : goal.invariant-loop-place
invariant-loop-place l = record {
  small : l.growth.used ≤ 4294967296;
  same : l.windows.items ++ grown l.most l.last l.growth (drop l.place-index l.places)
      ≡ windows_around l.most l.last l.places;
}
