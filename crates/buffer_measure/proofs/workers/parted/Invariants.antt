-- The passes and the answers so far are those of the workers so far.
use Rattle.std.proofs.Common.{◌≡◌, List, map, Some}
use Rattle.buffer_measure.specs.Workers.{answers_in, pass_of}
use Rattle.buffer_measure.specs.declared.answer.Answer.{Answer}
use Rattle.buffer_measure.proofs.workers.parted.Given as goal

abbrev pub invariant-loop-worker : goal.invariant-loop-worker
invariant-loop-worker l = record {
  passes : l.passes.items ≡ map pass_of l.yielded;
  answers : map (λ (a : List Answer). Some a) l.answers.items ≡ map answers_in l.yielded;
}
