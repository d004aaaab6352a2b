-- The tasks below the number have had their turns.
use Rattle.task_core.specs.worlds.WorldRuns.{IsInRound}
use Rattle.task_runner.proofs.rounds.round.Given as goal

abbrev pub invariant-loop-k : goal.invariant-loop-k
invariant-loop-k g l =
    IsInRound l.initial.world l.world l.initial.tasks.items l.tasks.items l.k l.moved
