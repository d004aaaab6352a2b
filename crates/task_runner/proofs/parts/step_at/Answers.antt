-- The task is one of the world, and still is after its step.
use Rattle.std.proofs.Common.{◌≡◌, None, Some, get_or, refl}
use Rattle.std.specs.Prelude.{slice_set}
use Rattle.std.proofs.lemmas.Result.{IfOk-weaker, on_err_weaker}
use Rattle.run_model.specs.declared.turn.Turn.{Turn}
use Rattle.task_core.specs.Shared.{StepsTo}
use Rattle.task_core.proofs.about_closes.Gets.{got}
use Rattle.task_runner.proofs.Going.{gone_step}
use Rattle.task_runner.specs.Passes.{StepsAt}
use Rattle.world_locks.specs.Met.{mines_of}
use Rattle.task_runner.proofs.parts.step_at.Goals as goal

pub step_shared-requires-after_bounds : goal.step_shared-requires-after_bounds
step_shared-requires-after_bounds g c =
    λ κs out. c.requires.tasks c.args.k c.index-tasks-k.result c.requires.within

pub returns-clause-gone : goal.returns-clause-gone
returns-clause-gone g c =
    let tasks = c.args.tasks.now in
    let d = c.index-tasks-k.result in
    gone_step g.N.Name.consts tasks c.args.k (get_or tasks c.args.k d) c.step_shared.new.self
    c.requires.tasks (got tasks c.args.k d c.requires.within) c.step_shared.ensures.number
    c.step_shared.ensures.program c.step_shared.ensures.still

pub returns-clause-step : goal.returns-clause-step
returns-clause-step g c =
    let tasks = c.args.tasks.now in
    let d = c.index-tasks-k.result in
    let t = get_or tasks c.args.k d in
    let t2 = c.step_shared.new.self in
    IfOk-weaker c.step_shared.result (λ (r : Turn). StepsTo g.N.Name.consts t t2 r)
    (λ (r : Turn). StepsAt g.N.Name.consts tasks (slice_set tasks c.args.k t2) c.args.k (Some r))
    (λ r steps. record {
      before = t;
      after = t2;
      at = got tasks c.args.k d c.requires.within;
      written = refl;
      step = steps;
    }) c.step_shared.ensures.go

pub returns-clause-err : goal.returns-clause-err
returns-clause-err g c =
    let tasks = c.args.tasks.now in
    let d = c.index-tasks-k.result in
    let t = get_or tasks c.args.k d in
    let t2 = c.step_shared.new.self in
    on_err_weaker {Q = StepsAt g.N.Name.consts tasks (slice_set tasks c.args.k t2) c.args.k None}
    c.step_shared.result
    (λ (w : (t2.task_state.position ≡ t.task_state.position)
    × (mines_of t2.passes ≡ mines_of t.passes)).
    record {
      before = t;
      after = t2;
      at = got tasks c.args.k d c.requires.within;
      written = refl;
      step = record {
        number = c.step_shared.ensures.number;
        program = c.step_shared.ensures.program;
        position = w.0;
        mines = w.1;
      };
    }) c.step_shared.ensures.err
