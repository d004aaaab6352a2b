-- The next worker's pass and answers were appended.
use Rattle.buffer_measure.specs.Workers.{answers_in, pass_of}
use Rattle.buffer_measure.proofs.Lists.{mapped_more}
use Rattle.buffer_measure.proofs.workers.parted.Goals as goal

pub loop-worker-preserved : goal.loop-worker-preserved
loop-worker-preserved c = record {
  passes = mapped_more pass_of _ _ c.loop-worker.yielded c.in-Some.worker
      c.in_ok-part.ensures.passes c.loop-worker.invariant.passes;
  answers = mapped_more answers_in _ _ c.loop-worker.yielded c.in-Some.worker
      c.in_ok-part.ensures.answers c.loop-worker.invariant.answers;
}
