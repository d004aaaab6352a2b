use Rattle.std.proofs.Common.{[], ◌∷◌}
use Rattle.grow_list.proofs.meeting.add_through_pass.Given as goal

abbrev pub ghosts-add : goal.ghosts-add
ghosts-add g a = record { entry = a.entry.now ∷ [] }
