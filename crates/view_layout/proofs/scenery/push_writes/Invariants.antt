use Rattle.std.proofs.Common.{◌≡◌, ◌++◌, take}
use Rattle.std.specs.List.{flat_map}
use Rattle.view_layout.specs.Drawing.{write_items}
use Rattle.view_layout.proofs.scenery.push_writes.Given as goal

-- the guides of the columns so far
abbrev pub invariant-loop-column : goal.invariant-loop-column
invariant-loop-column l =
    l.items.items
    ≡ l.fn.items.items ++ flat_map (write_items l.bottom) (take l.column-index l.columns)
