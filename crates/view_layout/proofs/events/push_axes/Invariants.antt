use Rattle.std.proofs.Common.{◌≡◌, ◌++◌, take}
use Rattle.std.specs.List.{flat_map}
use Rattle.view_layout.specs.Drawing.{axis_items}
use Rattle.view_layout.proofs.events.push_axes.Given as goal

-- the columns so far have their places and deeds
abbrev pub invariant-loop-column : goal.invariant-loop-column
invariant-loop-column l =
    l.items.items
    ≡ l.fn.items.items ++ flat_map (axis_items l.bottom) (take l.column-index l.columns)
