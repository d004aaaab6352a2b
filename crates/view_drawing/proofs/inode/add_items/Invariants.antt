use Rattle.std.proofs.Common.{◌≡◌, ◌++◌, take}
use Rattle.view_drawing.specs.Drawing.{items_pieces}
use Rattle.view_drawing.proofs.inode.add_items.Given as goal

-- the pieces of the items so far have been appended
abbrev pub invariant-loop-item : goal.invariant-loop-item
invariant-loop-item l =
    l.out.items ≡ l.fn.out.items ++ items_pieces l.view (take l.item-index l.items)
