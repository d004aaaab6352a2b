-- The constants that `are_apart` is given are those of the world.
use Rattle.worked_runs.proofs.locks.is_apart.Given as goal

abbrev pub ghosts-are_apart : goal.ghosts-are_apart
ghosts-are_apart g a = record { consts = a.world.consts }
