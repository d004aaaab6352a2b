-- The tasks below the number have made a turn each.
use Rattle.std.proofs.Common.{◌≡◌, length}
use Rattle.task_runner.specs.Parts.{HaveGone}
use Rattle.task_runner.specs.Passes.{IsPass}
use Rattle.task_runner.proofs.parts.pass_over.Given as goal

abbrev pub invariant-loop-k : goal.invariant-loop-k
invariant-loop-k g l = record {
  end : l.k-end ≡ length l.tasks;
  gone : HaveGone g.N.Name.consts l.fn.tasks l.tasks;
  pass : IsPass g.N.Name.consts l.fn.tasks l.tasks l.k l.moved;
}
