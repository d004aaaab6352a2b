use Rattle.std.proofs.Common.{take}
use Rattle.std.specs.List.{flat_map}
use Rattle.view_page.specs.Parts.{Pushed}
use Rattle.view_overview.specs.Overview.{window}
use Rattle.view_overview.proofs.overview.push_each.Given as goal

-- the windows so far have been appended
abbrev pub invariant-loop-window : goal.invariant-loop-window
invariant-loop-window l =
    Pushed l.text l.fn.out.items l.out.items
    (flat_map (window l.scale) (take l.window-index l.windows))
