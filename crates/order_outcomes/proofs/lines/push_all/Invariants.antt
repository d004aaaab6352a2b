-- the lines that are left are still to come
use Rattle.std.proofs.Common.{◌≡◌, ◌++◌, drop}
use Rattle.std.specs.List.{concat}
use Rattle.order_outcomes.proofs.lines.push_all.Given as goal

abbrev pub invariant-loop-line : goal.invariant-loop-line
invariant-loop-line l =
    l.out.items ++ concat (drop l.line-index l.lines) ≡ l.fn.out.items ++ concat l.lines
