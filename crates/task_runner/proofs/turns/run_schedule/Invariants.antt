-- The turns so far.
use Rattle.std.proofs.Common.{take}
use Rattle.task_core.specs.worlds.WorldRuns.{HasTurned}
use Rattle.task_runner.proofs.turns.run_schedule.Given as goal

abbrev pub invariant-loop-k : goal.invariant-loop-k
invariant-loop-k g l =
    HasTurned l.initial.world l.world l.initial.tasks.items l.tasks.items (take l.k-index l.turns)
