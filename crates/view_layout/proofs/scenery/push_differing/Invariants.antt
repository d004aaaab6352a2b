use Rattle.std.proofs.Common.{◌≡◌, ◌++◌, take}
use Rattle.std.specs.List.{flat_map}
use Rattle.view_layout.specs.Drawing.{differing_items}
use Rattle.view_layout.proofs.scenery.push_differing.Given as goal

-- the columns so far are marked
abbrev pub invariant-loop-column : goal.invariant-loop-column
invariant-loop-column l =
    l.items.items
    ≡ l.fn.items.items
    ++ flat_map (differing_items l.differs l.bottom) (take l.column-index l.columns)
