use Rattle.std.proofs.Common.{◌≡◌, ◌++◌, take}
use Rattle.std.specs.List.{flat_map}
use Rattle.view_layout.specs.Drawing.{hashing_items}
use Rattle.view_layout.proofs.events.push_hashing_to.Given as goal

-- the collections of the columns so far
abbrev pub invariant-loop-column : goal.invariant-loop-column
invariant-loop-column l =
    l.items.items
    ≡ l.fn.items.items ++ flat_map (hashing_items l.end l.seats) (take l.column-index l.columns)
