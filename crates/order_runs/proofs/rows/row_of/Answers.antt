use Rattle.order_runs.proofs.Stepping.{outcome_there}
use Rattle.order_runs.proofs.rows.row_of.Goals as goal

pub returns-clause-outcome : goal.returns-clause-outcome
returns-clause-outcome c = λ scene kept.
    outcome_there scene c.args.way.now kept
    (record { counted = c.in_ok-counted.counted; outcome = c.in_ok-outcome.outcome })
    c.in_ok-counted.ensures
    c.in_ok-outcome.ensures
