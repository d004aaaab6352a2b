use Rattle.order_counts.proofs.Counting.{counted}
use Rattle.order_counts.proofs.laws.counting_gives_rows.Goals as goal

pub returns : goal.returns
returns g c = counted _ _ _
