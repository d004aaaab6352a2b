use Rattle.std.proofs.Common.{◌∙◌, sym, arith}
use Rattle.std.proofs.lemmas.List.{length-map}
use Rattle.task_core.specs.worlds.Runs.{position_of}
use Rattle.task_core.specs.worlds.Tasks.{Tasked}
use Rattle.order_sights.specs.Pairs.{IsPositionPaired}
use Rattle.order_sights.proofs.Twos.{two_all, two_mapped, two_next}
use Rattle.order_sights.proofs.tasks.same_tasks.Goals as goal

pub loop-k-preserved : goal.loop-k-preserved
loop-k-preserved c =
    let even = c.if-a-b.false in
    let within = c.loop-k-test.true in
    two_next (λ (t u : Tasked). IsPositionPaired c.args.pairs.now (position_of t) (position_of u))
    c.args.a.now c.args.b.now c.loop-k.k c.index-a-k.result c.index-b-k.result within
    (omega (arith, even, within)) c.index-a-k.is c.index-b-k.is
    (c.same_task.ensures c.if-not-same_task.false) c.loop-k.invariant

pub returns : goal.returns
returns c = λ _. (
  length-map c.args.b.now position_of ∙ sym c.if-a-b.false
      ∙ sym (length-map c.args.a.now position_of),
  two_mapped (IsPositionPaired c.args.pairs.now) position_of c.args.a.now c.args.b.now
      (two_all (λ (t u : Tasked). IsPositionPaired c.args.pairs.now (position_of t) (position_of u))
      c.args.a.now c.args.b.now c.loop-k.k c.loop-k-test.false c.loop-k.invariant),
)
