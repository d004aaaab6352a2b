-- The step of the task is a turn.
use Rattle.std.proofs.Common.{◌≡◌}
use Rattle.std.specs.Prelude.{slice_set}
use Rattle.std.proofs.lemmas.Result.{IfOk-weaker, on_err_weaker}
use Rattle.run_model.specs.declared.turn.Turn.{Turn}
use Rattle.task_core.specs.worlds.WorldRuns.{IsTurn, StepsTaskTo}
use Rattle.task_core.proofs.about_worlds.Stepping.{step_is_turn}
use Rattle.task_runner.proofs.Running.{task_there}
use Rattle.task_runner.proofs.Stopped.{moment_same}
use Rattle.task_runner.proofs.turns.turn_at.Goals as goal

pub returns-clause-turned : goal.returns-clause-turned
returns-clause-turned g c =
    let tasks = c.args.tasks.now.items in
    let t = c.index_mut-task.result.now in
    let law = step_is_turn c.args.world.now c.step.new.world tasks c.args.k t c.step.new.self
    c.requires.tasks (task_there tasks c.args.k t c.requires.within c.index_mut-task.ensures.value)
    (record {
      consts = c.step.ensures.consts;
      number = c.step.ensures.number;
      program = c.step.ensures.program;
      task = c.step.ensures.still;
    }) in
    IfOk-weaker c.step.result
    (λ (r : Turn). StepsTaskTo c.args.world.now c.step.new.world t c.step.new.self r)
    (λ (r : Turn). IsTurn c.args.world.now c.step.new.world tasks
    (slice_set tasks c.args.k c.step.new.self) c.args.k r)
    law.1 c.step.ensures.go

pub returns-clause-err : goal.returns-clause-err
returns-clause-err g c =
    let t = c.index_mut-task.result.now in
    on_err_weaker c.step.result
    (λ (w : (c.step.new.world.state ≡ c.args.world.now.state)
    × (c.step.new.self.task_state.position ≡ t.task_state.position)).
    moment_same c.args.world.now c.step.new.world c.args.tasks.now.items c.args.k t
    c.step.new.self c.index_mut-task.ensures.value w.0 w.1) c.step.ensures.err

pub returns-clause-still : goal.returns-clause-still
returns-clause-still g c =
    let tasks = c.args.tasks.now.items in
    let t = c.index_mut-task.result.now in
    let law = step_is_turn c.args.world.now c.step.new.world tasks c.args.k t c.step.new.self
    c.requires.tasks (task_there tasks c.args.k t c.requires.within c.index_mut-task.ensures.value)
    (record {
      consts = c.step.ensures.consts;
      number = c.step.ensures.number;
      program = c.step.ensures.program;
      task = c.step.ensures.still;
    }) in
    law.0
