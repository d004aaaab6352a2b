use Rattle.std.proofs.Common.{arith}
use Rattle.grow_list.proofs.Copies.{copies}
use Rattle.grow_list.proofs.meeting.take_number.Goals as goal

pub split_seat-seat-requires : goal.split_seat-seat-requires
split_seat-seat-requires g c = (c.requires.seat, omega (arith, c.requires.words), copies _ _ _)
