use Rattle.std.proofs.Common.{◌≡◌, ◌++◌, drop}
use Rattle.view_lanes.specs.Lanes.{seats_of}
use Rattle.view_lanes.proofs.lanes.push_rows.Given as goal

-- the seats so far, and those of the other bars
abbrev pub invariant-loop-at : goal.invariant-loop-at
invariant-loop-at l =
    l.seats.items ++ seats_of l.top (drop l.at l.bars) (drop l.at l.rows)
    ≡ l.fn.seats.items ++ seats_of l.top l.bars l.rows
