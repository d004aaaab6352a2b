use Rattle.std.proofs.Common.{refl, arith}
use Rattle.grow_list.proofs.Moves.{draws_as}
use Rattle.grow_list.proofs.meeting.draw_number.Goals as goal

pub compare_exchange-requires : goal.compare_exchange-requires
compare_exchange-requires g c = (
  c.requires.seat,
  omega (arith, c.requires.words),
  draws_as _ _ _ _ _ _ _ c.requires.drawing c.requires.view refl c.requires.due,
)
