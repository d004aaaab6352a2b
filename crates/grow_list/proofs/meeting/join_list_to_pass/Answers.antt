use Rattle.std.proofs.Common.{ap, ◌∙◌, arith}
use Rattle.grow_list.proofs.Copies.{copies}
use Rattle.grow_list.proofs.Moves.{visits_as}
use Rattle.grow_list.proofs.meeting.join_list_to_pass.Goals as goal

pub split_seat-copy-requires : goal.split_seat-copy-requires
split_seat-copy-requires g c = (c.requires.seats.0, omega (arith, c.requires.words), copies _ _ _)

pub join_seat-requires : goal.join_seat-requires
join_seat-requires g c =
    let copy = c.split_seat-copy.ensures in (
      c.requires.seats.1,
      copy.3 ∙ c.requires.seats.0,
      ap (λ m. m.1) copy.4,
      omega (arith, c.requires.words),
      visits_as _ _ _ _ _ _ _ c.requires.views.1 (ap (λ m. m.0) copy.4 ∙ c.requires.views.0),
    )
