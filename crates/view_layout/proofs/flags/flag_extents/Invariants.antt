use Rattle.std.proofs.Common.{◌≡◌, take}
use Rattle.view_layout.specs.Flags.{flag_extents}
use Rattle.view_layout.proofs.flags.flag_extents.Given as goal

-- the extents of the flags so far
abbrev pub invariant-loop-flag : goal.invariant-loop-flag
invariant-loop-flag l = l.extents.items ≡ flag_extents (take l.flag-index l.noted)
