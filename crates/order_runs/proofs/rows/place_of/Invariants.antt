-- no row so far has the outcome
use Rattle.std.proofs.Common.{take}
use Rattle.order_runs.specs.Steps.{HasNone}
use Rattle.order_runs.proofs.rows.place_of.Given as goal

abbrev pub invariant-loop-place : goal.invariant-loop-place
invariant-loop-place l = HasNone (take l.place l.rows) l.outcome
