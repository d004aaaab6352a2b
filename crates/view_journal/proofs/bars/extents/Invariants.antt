use Rattle.std.proofs.Common.{◌≡◌, take}
use Rattle.view_journal.specs.Bars.{extents}
use Rattle.view_journal.proofs.bars.extents.Given as goal

-- the places of the bars so far
abbrev pub invariant-loop-bar : goal.invariant-loop-bar
invariant-loop-bar l = l.extents.items ≡ extents (take l.bar-index l.bars)
