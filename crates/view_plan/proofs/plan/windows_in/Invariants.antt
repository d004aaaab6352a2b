use Rattle.std.proofs.Common.{◌≡◌, ◌++◌, drop}
use Rattle.view_plan.specs.Plan.{windows_in}
use Rattle.view_plan.proofs.plan.windows_in.Given as goal

-- the windows so far, and the others of the inode
abbrev pub invariant-loop-part : goal.invariant-loop-part
invariant-loop-part l =
    l.windows.items ++ windows_in l.inode (drop l.part-index l.shown)
    ≡ windows_in l.inode l.shown
