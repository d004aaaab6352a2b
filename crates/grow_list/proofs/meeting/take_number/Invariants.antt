use Rattle.grow_list.proofs.meeting.take_number.Given as goal

abbrev pub ghosts-draw_number : goal.ghosts-draw_number
ghosts-draw_number g a = record { seat = a.seat.now.id }
