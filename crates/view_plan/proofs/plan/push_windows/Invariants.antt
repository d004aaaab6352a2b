use Rattle.std.proofs.Common.{◌≡◌, ◌++◌, drop}
use Rattle.view_plan.specs.Plan.{shown_of}
use Rattle.view_plan.proofs.plan.push_windows.Given as goal

-- the windows so far have been appended, and the others are left
abbrev pub invariant-loop-window : goal.invariant-loop-window
invariant-loop-window l =
    l.out.items ++ shown_of l.inode (drop l.window-index l.windows)
    ≡ l.fn.out.items ++ shown_of l.inode l.windows
