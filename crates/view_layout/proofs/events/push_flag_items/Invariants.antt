use Rattle.std.proofs.Common.{◌≡◌, ◌++◌, take}
use Rattle.std.specs.List.{flat_map}
use Rattle.view_layout.specs.Drawing.{flag_items}
use Rattle.view_layout.proofs.events.push_flag_items.Given as goal

-- the flags so far have been appended
abbrev pub invariant-loop-flag : goal.invariant-loop-flag
invariant-loop-flag l =
    l.items.items
    ≡ l.fn.items.items ++ flat_map flag_items (take l.flag-index l.flags)
