use Rattle.std.proofs.Common.{ap, ◌∙◌, arith}
use Rattle.grow_list.proofs.Moves.{comes_as}
use Rattle.grow_list.proofs.meeting.end_pass.Goals as goal

pub join_seat-requires : goal.join_seat-requires
join_seat-requires g c =
    let list = c.pass_sees_list.ensures.list in
    let pass = c.pass_sees_list.ensures.pass in (
      list.table_id ∙ c.requires.seats.0,
      pass.table_id ∙ c.requires.seats.1,
      ap (λ m. m.1) pass.me ∙ c.requires.pass.1,
      omega (arith, c.requires.words),
      comes_as _ _ _ _ _ _ _ (ap (λ m. m.0) list.me ∙ c.requires.list.view) (ap (λ m. m.0) pass.me),
    )
