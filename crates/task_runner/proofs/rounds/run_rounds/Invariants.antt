-- The rounds so far, each of which moved a task.
use Rattle.task_core.specs.worlds.WorldRuns.{HasRounded}
use Rattle.task_runner.proofs.rounds.run_rounds.Given as goal

abbrev pub invariant-loop : goal.invariant-loop
invariant-loop g l =
    HasRounded l.initial.world l.world l.initial.tasks.items l.tasks.items l.counter
