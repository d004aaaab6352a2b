use Rattle.std.proofs.Common.{◌≡◌, ◌++◌, drop}
use Rattle.view_layout.specs.Drawing.{middle_end, segments_from, shown_in}
use Rattle.view_journal.specs.Frame.{middle}
use Rattle.view_layout.proofs.strips.push_segments.Given as goal

-- the segments so far, and those from the last one on
abbrev pub invariant-loop-column : goal.invariant-loop-column
invariant-loop-column l =
    l.items.items
    ++ segments_from l.strip l.from l.to l.shown (drop l.column-index l.rest)
    ≡ l.fn.items.items
    ++ segments_from l.strip (middle l.fn.first.x) (middle_end l.fn.first.x)
    (shown_in l.strip l.fn.first.state) l.rest
