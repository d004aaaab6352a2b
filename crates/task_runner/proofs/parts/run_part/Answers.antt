-- Another pass over the tasks, or the last one.
use Rattle.std.proofs.Common.{◌≡◌, true, false, refl, arith, rules}
use Rattle.task_core.proofs.SharedSteps.{on_err}
use Rattle.task_runner.proofs.Going.{gone_all, gone_more, gone_none}
use Rattle.task_runner.proofs.Passing.{passed_last, passed_more, passed_out}
use Rattle.task_runner.specs.Passes.{IsPartStopped}
use Rattle.task_runner.proofs.parts.run_part.Goals as goal

pub loop-init : goal.loop-init
loop-init g c = record {
  gone = gone_none g.N.Name.consts c.args.tasks.now c.requires;
  passes = refl;
}

pub pass_over-requires-after_bounds : goal.pass_over-requires-after_bounds
pass_over-requires-after_bounds g c =
    λ κs out. gone_all g.N.Name.consts c.args.tasks.now c.loop.tasks c.loop.invariant.gone

pub returns-in_err-pass_over-clause-gone : goal.returns-in_err-pass_over-clause-gone
returns-in_err-pass_over-clause-gone g c =
    gone_more g.N.Name.consts c.args.tasks.now c.loop.tasks c.pass_over.new.tasks
    c.loop.invariant.gone c.pass_over.ensures.gone

pub returns-in_err-pass_over-clause-err : goal.returns-in_err-pass_over-clause-err
returns-in_err-pass_over-clause-err g c =
    on_err c.from_residual.result
    (IsPartStopped g.N.Name.consts c.args.tasks.now c.pass_over.new.tasks) (record {
      count = c.loop.counter;
      mid = c.loop.tasks;
      before = c.loop.invariant.passes;
      next = c.in_err-pass_over.ensures.err;
    })

pub returns-then-not-branch-clause-gone : goal.returns-then-not-branch-clause-gone
returns-then-not-branch-clause-gone g c =
    gone_more g.N.Name.consts c.args.tasks.now c.loop.tasks c.pass_over.new.tasks
    c.loop.invariant.gone c.pass_over.ensures.gone

pub returns-then-not-branch-clause-over : goal.returns-then-not-branch-clause-over
returns-then-not-branch-clause-over g c =
    let quiet : c.in_ok-pass_over.field-0 ≡ false = search rules in
    passed_last g.N.Name.consts c.loop.counter c.args.tasks.now c.loop.tasks c.pass_over.new.tasks
    c.in_ok-pass_over.field-0 c.loop.invariant.passes c.in_ok-pass_over.ensures.pass quiet

pub loop-preserved : goal.loop-preserved
loop-preserved g c =
    let moved : c.in_ok-pass_over.field-0 ≡ true = search rules in
    record {
      gone = gone_more g.N.Name.consts c.args.tasks.now c.loop.tasks c.pass_over.new.tasks
          c.loop.invariant.gone c.pass_over.ensures.gone;
      passes = passed_more g.N.Name.consts c.loop.counter c.args.tasks.now c.loop.tasks
          c.pass_over.new.tasks c.in_ok-pass_over.field-0 c.loop.invariant.passes
          c.in_ok-pass_over.ensures.pass moved;
    }

pub returns-clause-gone : goal.returns-clause-gone
returns-clause-gone g c = c.loop.invariant.gone

pub returns-clause-err : goal.returns-clause-err
returns-clause-err g c =
    passed_out g.N.Name.consts c.loop.counter c.args.tasks.now c.loop.tasks (omega arith)
    c.loop.invariant.passes
