use Rattle.std.proofs.Common.{◌≡◌, ◌++◌, drop}
use Rattle.view_layout.specs.Drawing.{gaps_from, gaps_items}
use Rattle.view_layout.proofs.events.push_gaps.Given as goal

-- the gaps so far, and those from here on
abbrev pub invariant-loop-column : goal.invariant-loop-column
invariant-loop-column l =
    l.items.items ++ gaps_from l.bottom l.events l.next l.x (drop l.column-index l.columns)
    ≡ l.fn.items.items ++ gaps_items l.bottom l.events l.columns
