use Rattle.std.proofs.Common.{arith}
use Rattle.grow_list.proofs.Moves.{learns_as}
use Rattle.grow_list.proofs.meeting.pass_learns.Goals as goal

pub load-requires : goal.load-requires
load-requires g c = (
  c.requires.seat.0,
  omega (arith, c.requires.words),
  learns_as _ _ _ _ c.requires.seat.1 c.requires.view,
)
