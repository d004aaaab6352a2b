use Rattle.std.proofs.Common.{arith}
use Rattle.order_runs.proofs.Pointing.{not_named}
use Rattle.order_runs.proofs.points.turned_by.Goals as goal

pub returns-then-task-tasks : goal.returns-then-task-tasks
returns-then-task-tasks c = λ m leads.
    not_named c.args.play.now c.args.point m c.args.task (omega arith)
