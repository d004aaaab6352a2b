use Rattle.std.proofs.Common.{◌≡◌, drop}
use Rattle.view_tables.specs.Frame.{refused, refused_from}
use Rattle.view_tables.proofs.frame.refused.Given as goal

abbrev pub invariant-loop-task : goal.invariant-loop-task
invariant-loop-task l = refused_from l.n (drop l.task-index l.tasks) ≡ refused l.tasks
