use Rattle.std.proofs.Common.{◌≡◌, drop}
use Rattle.std.specs.List.{list_any}
use Rattle.view_journal.specs.Bars.{meets}
use Rattle.view_journal.proofs.bars.meets_any.Given as goal

-- none of the windows so far meets the bar
abbrev pub invariant-loop-window : goal.invariant-loop-window
invariant-loop-window l =
    list_any (meets l.bar) (drop l.window-index l.windows) ≡ list_any (meets l.bar) l.windows
