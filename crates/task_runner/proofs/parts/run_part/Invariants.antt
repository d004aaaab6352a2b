-- The passes so far, each of which moved a task.
use Rattle.task_runner.specs.Parts.{HaveGone}
use Rattle.task_runner.specs.Passes.{HavePassed}
use Rattle.task_runner.proofs.parts.run_part.Given as goal

abbrev pub invariant-loop : goal.invariant-loop
invariant-loop g l = record {
  gone : HaveGone g.N.Name.consts l.fn.tasks l.tasks;
  passes : HavePassed g.N.Name.consts l.counter l.fn.tasks l.tasks;
}
