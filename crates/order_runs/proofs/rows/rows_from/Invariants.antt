-- the ways of so many turns, and the orders that have ended
use Rattle.order_runs.proofs.Stopping.{IsCounting}
use Rattle.order_runs.proofs.rows.rows_from.Given as goal

abbrev pub invariant-loop-turn : goal.invariant-loop-turn
invariant-loop-turn l = IsCounting l.part l.fn.most l.turn l.layer.items l.rows.items l.room
