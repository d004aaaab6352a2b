-- The constants that `run_threads` is given are those of the world.
use Rattle.script_run.proofs.running.turn_all.Given as goal

abbrev pub ghosts-run_threads : goal.ghosts-run_threads
ghosts-run_threads g a = record { consts = a.world.consts }
