use Rattle.std.proofs.Common.{◌≡◌, ◌++◌, take}
use Rattle.std.specs.List.{flat_map}
use Rattle.view_layout.specs.Drawing.{guide_items}
use Rattle.view_layout.proofs.scenery.push_guides.Given as goal

-- the guides of the flags so far
abbrev pub invariant-loop-flag : goal.invariant-loop-flag
invariant-loop-flag l =
    l.items.items
    ≡ l.fn.items.items ++ flat_map (guide_items l.bottom) (take l.flag-index l.flags)
