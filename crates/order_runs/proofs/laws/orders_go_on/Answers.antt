use Rattle.order_runs.proofs.GoingOn.{go_on}
use Rattle.order_runs.proofs.laws.orders_go_on.Goals as goal

pub returns : goal.returns
returns c = go_on
