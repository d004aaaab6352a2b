use Rattle.std.proofs.Common.{◌≡◌, drop}
use Rattle.view_lanes.specs.Lanes.{own_seat_in}
use Rattle.view_lanes.proofs.rows.own_seat_in.Given as goal

-- the seat is among the others
abbrev pub invariant-loop-seat : goal.invariant-loop-seat
invariant-loop-seat l =
    own_seat_in l.file l.task (drop l.seat-index l.seats) ≡ own_seat_in l.file l.task l.seats
