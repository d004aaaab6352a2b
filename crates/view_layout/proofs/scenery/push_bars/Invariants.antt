use Rattle.std.proofs.Common.{◌≡◌, ◌++◌, take}
use Rattle.std.specs.List.{flat_map}
use Rattle.view_layout.specs.Drawing.{bar_items}
use Rattle.view_layout.proofs.scenery.push_bars.Given as goal

-- the bars so far have been appended
abbrev pub invariant-loop-seat : goal.invariant-loop-seat
invariant-loop-seat l =
    l.items.items
    ≡ l.fn.items.items ++ flat_map (bar_items l.columns) (take l.seat-index l.seats)
