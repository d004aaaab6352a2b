use Rattle.std.proofs.Common.{◌≡◌, drop}
use Rattle.view_lanes.specs.Lanes.{seat_in}
use Rattle.view_lanes.proofs.rows.seat_in.Given as goal

-- the seat is among the others
abbrev pub invariant-loop-seat : goal.invariant-loop-seat
invariant-loop-seat l =
    seat_in l.file (drop l.seat-index l.seats) ≡ seat_in l.file l.seats
