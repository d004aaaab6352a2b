-- Halves get fewer parts.
use Rattle.std.proofs.Common.{◌+◌, ◌-◌, ◌*◌}
use Rattle.task_runner.proofs.parts.+halves.Given as goal

abbrev pub decreases-run_halves : goal.decreases-run_halves
decreases-run_halves g l = 4 * l.count

abbrev pub decreases-run_both : goal.decreases-run_both
decreases-run_both g l = 4 * (l.low + l.high) - 1

abbrev pub decreases-run_both-first : goal.decreases-run_both-first
decreases-run_both-first g l = 4 * l.low + 1

abbrev pub decreases-run_both-second : goal.decreases-run_both-second
decreases-run_both-second g l = 4 * l.high + 1
