use Rattle.order_outcomes.proofs.Schedules.{has_outcome}
use Rattle.order_outcomes.proofs.laws.schedule_has_outcome.Goals as goal

pub returns : goal.returns
returns c = has_outcome
