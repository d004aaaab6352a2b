use Rattle.std.proofs.Common.{arith}
use Rattle.view_journal.proofs.Firsts.{first_so_many}
use Rattle.view_plan.proofs.plan.first_of.Goals as goal

pub returns : goal.returns
returns c = first_so_many c.args.order.now 200 c.min.result (omega (arith, c.min.ensures))
