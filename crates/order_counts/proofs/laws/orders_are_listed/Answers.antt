use Rattle.order_counts.proofs.Counting.{listed}
use Rattle.order_counts.proofs.laws.orders_are_listed.Goals as goal

pub returns : goal.returns
returns g c = listed _
