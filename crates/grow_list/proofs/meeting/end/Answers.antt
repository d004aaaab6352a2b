use Rattle.std.proofs.Common.{arith}
use Rattle.grow_list.proofs.Moves.{closes_as}
use Rattle.grow_list.proofs.meeting.end.Goals as goal

pub load-requires : goal.load-requires
load-requires g c = (
  c.requires.seat,
  omega (arith, c.requires.words),
  closes_as _ _ _ _ c.requires.list.first c.requires.list.view,
)
