-- One more task has made a step.
use Rattle.std.proofs.Common.{◌≡◌, ◌<◌, ℕ, length, sym, ◌∙◌, subst, arith}
use Rattle.task_core.proofs.SharedSteps.{on_err}
use Rattle.task_runner.proofs.Going.{gone_all, gone_more, gone_none}
use Rattle.task_runner.proofs.Passing.{pass_fails, pass_more, pass_none}
use Rattle.task_runner.specs.Passes.{IsInPass, IsPass}
use Rattle.task_runner.proofs.parts.pass_over.Goals as goal

pub loop-k-init : goal.loop-k-init
loop-k-init g c = record {
  end = omega arith;
  gone = gone_none g.N.Name.consts c.args.tasks.now c.requires;
  pass = pass_none g.N.Name.consts c.args.tasks.now;
}

pub step_at-requires-clause-within : goal.step_at-requires-clause-within
step_at-requires-clause-within g c =
    let below : c.loop-k.k < length c.loop-k.tasks = omega arith in
    λ κs out. below

pub step_at-requires-clause-tasks : goal.step_at-requires-clause-tasks
step_at-requires-clause-tasks g c =
    λ κs out. gone_all g.N.Name.consts c.args.tasks.now c.loop-k.tasks c.loop-k.invariant.gone

pub returns-in_err-step_at-clause-gone : goal.returns-in_err-step_at-clause-gone
returns-in_err-step_at-clause-gone g c =
    gone_more g.N.Name.consts c.args.tasks.now c.loop-k.tasks c.step_at.new.tasks
    c.loop-k.invariant.gone c.step_at.ensures.gone

pub returns-in_err-step_at-clause-err : goal.returns-in_err-step_at-clause-err
returns-in_err-step_at-clause-err g c =
    let below : c.loop-k.k < length c.args.tasks.now =
    omega (arith, c.loop-k.invariant.gone.even) in
    on_err c.from_residual.result (IsInPass g.N.Name.consts c.args.tasks.now c.step_at.new.tasks)
    (pass_fails g.N.Name.consts c.args.tasks.now c.loop-k.tasks c.step_at.new.tasks c.loop-k.k
    c.loop-k.moved below c.loop-k.invariant.pass c.in_err-step_at.ensures.err)

pub loop-k-preserved : goal.loop-k-preserved
loop-k-preserved g c = record {
  end = c.loop-k.invariant.end ∙ sym c.step_at.ensures.gone.even;
  gone = gone_more g.N.Name.consts c.args.tasks.now c.loop-k.tasks c.step_at.new.tasks
      c.loop-k.invariant.gone c.step_at.ensures.gone;
  pass = pass_more g.N.Name.consts c.args.tasks.now c.loop-k.tasks c.step_at.new.tasks c.loop-k.k
      c.loop-k.moved c.has_moved-moved.result c.in_ok-step_at.field-0 c.loop-k.invariant.pass
      c.in_ok-step_at.ensures.step c.has_moved-moved.ensures;
}

pub returns-clause-gone : goal.returns-clause-gone
returns-clause-gone g c = c.loop-k.invariant.gone

pub returns-clause-pass : goal.returns-clause-pass
returns-clause-pass g c =
    let all : c.loop-k.k ≡ length c.args.tasks.now =
    omega (arith, c.loop-k.invariant.gone.even) in
    subst (λ (n : ℕ). IsPass g.N.Name.consts c.args.tasks.now c.loop-k.tasks n c.loop-k.moved) all
    c.loop-k.invariant.pass
