use Rattle.std.proofs.Common.{◌≡◌, ◌++◌, take}
use Rattle.std.specs.List.{flat_map}
use Rattle.view_layout.specs.Drawing.{parting_items}
use Rattle.view_layout.proofs.scenery.push_parting.Given as goal

-- the line is there if it belongs to a column so far
abbrev pub invariant-loop-column : goal.invariant-loop-column
invariant-loop-column l =
    l.items.items
    ≡ l.fn.items.items ++ flat_map (parting_items l.parts l.bottom) (take l.column-index l.columns)
