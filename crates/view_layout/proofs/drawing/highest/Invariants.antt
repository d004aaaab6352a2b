use Rattle.std.proofs.Common.{◌≡◌, drop}
use Rattle.view_layout.specs.Drawing.{highest, highest_from}
use Rattle.view_layout.proofs.drawing.highest.Given as goal

-- the highest flag so far
abbrev pub invariant-loop-flag : goal.invariant-loop-flag
invariant-loop-flag l = highest_from l.y (drop l.flag-index l.flags) ≡ highest l.flags
