use Rattle.std.proofs.Common.{arith}
use Rattle.view_plan.specs.Slots.{most}
use Rattle.view_journal.proofs.Firsts.{first_so_many}
use Rattle.view_plan.proofs.slots.first_inodes.Goals as goal

pub returns-clause-is : goal.returns-clause-is
returns-clause-is c =
    first_so_many c.args.inodes.now most c.min.result (omega (arith, c.min.ensures))
