-- The buffers so far have their answers.
use Rattle.std.proofs.Common.{length, take}
use Rattle.buffer_measure.specs.Answered.{HaveAnswers, IsSamePass}
use Rattle.buffer_measure.proofs.workers.answer_lines.Given as goal

abbrev pub invariant-loop-k : goal.invariant-loop-k
invariant-loop-k g l = record {
  same : IsSamePass l.fn.pass l.pass;
  answered : HaveAnswers l.hash l.register (take (length l.yielded) l.fn.lines.items) l.pass
      l.answers;
}
