use Rattle.std.proofs.Common.{◌≡◌, ◌<◌, drop}
use Rattle.view_journal.specs.Frame.{column_from, column_of}
use Rattle.view_journal.proofs.frame.column_of.Given as goal

-- the column is among those of the other windows
abbrev pub invariant-loop-window : goal.invariant-loop-window
invariant-loop-window l = record {
  small : l.x < 4294967296;
  same : column_from l.next l.x (drop l.window-index l.windows) l.place
      ≡ column_of l.windows l.place;
}
