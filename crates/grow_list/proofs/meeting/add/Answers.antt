use Rattle.std.proofs.Common.{arith}
use Rattle.grow_list.proofs.Moves.{adds_as}
use Rattle.grow_list.proofs.meeting.add.Goals as goal

pub store-requires : goal.store-requires
store-requires g c = (
  c.requires.seat.0,
  omega (arith, c.requires.words),
  adds_as _ _ _ _ _ _ _ c.requires.seat.1 c.requires.view c.requires.entry c.requires.settled
      c.requires.due,
)
