use Rattle.std.proofs.Common.{◌≡◌, ◌++◌, take}
use Rattle.view_page.specs.Look.{lines_of}
use Rattle.view_page.proofs.look.push_lines.Given as goal

-- the lines so far have been appended
abbrev pub invariant-loop-line : goal.invariant-loop-line
invariant-loop-line l = l.out.items ≡ l.fn.out.items ++ lines_of (take l.line-index l.lines)
