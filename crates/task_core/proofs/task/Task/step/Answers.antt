-- After its turn the task is still one of the world.
use Rattle.std.proofs.Common.{◌≡◌, ◌∙◌, ap, sym, subst}
use Rattle.std.proofs.lemmas.Result.{err_from_is_err_and}
use Rattle.run_model.specs.declared.turn.Turn.{Turn}
use Rattle.task_core.proofs.SharedSteps.{HasRoom, goes_with}
use Rattle.task_core.proofs.Turns.{left_still, task_same, turned_goes, turned_still}
use Rattle.task_core.specs.GoesOn.{turn_of}
use Rattle.world_locks.specs.acts.Turning.{Goes, turned_to}
use Rattle.world_model.specs.WorldConsts.{WorldConsts, mode_in}
use Rattle.world_model.specs.Tasks.{IsTask, Tasked}
use Rattle.world_model.specs.World.{WorldValue}
use Rattle.task_core.proofs.task.Task.step.Goals as goal

pub returns-in_err-reserve-clause-still : goal.returns-in_err-reserve-clause-still
returns-in_err-reserve-clause-still c =
    let t = c.self.inside in
    task_same c.args.world.now.consts t.number t.task_state c.reserve.new.self t.hash_state t.passes
    c.reserve.ensures.same
    (subst (λ (x : Tasked). IsTask c.args.world.now.consts x) (sym c.self.view_is) c.requires)

pub try_step-requires : goal.try_step-requires
try_step-requires c =
    let t = c.self.inside in
    task_same c.args.world.now.consts t.number t.task_state c.reserve.new.self t.hash_state t.passes
    c.reserve.ensures.same
    (subst (λ (x : Tasked). IsTask c.args.world.now.consts x) (sym c.self.view_is) c.requires)

pub returns-in_err-turned-clause-still : goal.returns-in_err-turned-clause-still
returns-in_err-turned-clause-still c =
    let s = c.self.inside in
    let t : Tasked =
    record {
      number = s.number;
      task_state = c.reserve.new.self;
      hash_state = s.hash_state;
      passes = s.passes;
    } in
    let is : IsTask c.args.world.now.consts t =
    task_same c.args.world.now.consts s.number s.task_state c.reserve.new.self s.hash_state s.passes
    c.reserve.ensures.same
    (subst (λ (x : Tasked). IsTask c.args.world.now.consts x) (sym c.self.view_is) c.requires) in
    left_still c.args.world.now.consts c.try_step.new.self.consts t c.args.world.now.state
    c.try_step.new.self.state c.try_step.new.passes c.try_step.new.hash_state
    c.try_step.ensures.consts is c.in_err-turned.ensures.reaches.plays

pub returns-clause-still : goal.returns-clause-still
returns-clause-still c =
    let s = c.self.inside in
    let t : Tasked =
    record {
      number = s.number;
      task_state = c.reserve.new.self;
      hash_state = s.hash_state;
      passes = s.passes;
    } in
    let is : IsTask c.args.world.now.consts t =
    task_same c.args.world.now.consts s.number s.task_state c.reserve.new.self s.hash_state s.passes
    c.reserve.ensures.same
    (subst (λ (x : Tasked). IsTask c.args.world.now.consts x) (sym c.self.view_is) c.requires) in
    let mode : c.world.inside.parts.settings.mode ≡ mode_in c.args.world.now.consts =
    ap (λ (x : WorldValue). x.consts.settings.mode) c.world.view_is
    ∙ ap (λ (x : WorldConsts). x.settings.mode) c.try_step.ensures.consts in
    turned_still c.args.world.now.consts c.try_step.new.self.consts t c.args.world.now.state
    c.try_step.new.self.state c.try_step.new.passes c.try_step.new.hash_state
    c.try_step.ensures.consts is c.try_step.result c.world.inside.parts.settings.mode
    c.go_on.new.task_state c.in_ok-turned.turned c.in_ok-turned.was c.try_step.ensures.reaches mode
    c.go_on.ensures.goes

pub returns-clause-go : goal.returns-clause-go
returns-clause-go c =
    let s = c.self.inside in
    let t : Tasked =
    record {
      number = s.number;
      task_state = c.reserve.new.self;
      hash_state = s.hash_state;
      passes = s.passes;
    } in
    let room : HasRoom c.args.self.now t =
    record {
      number = ap (λ (x : Tasked). x.number) c.self.view_is;
      program = c.reserve.ensures.same.program
          ∙ ap (λ (x : Tasked). x.task_state.program) c.self.view_is;
      position = c.reserve.ensures.same.position
          ∙ ap (λ (x : Tasked). x.task_state.position) c.self.view_is;
      passes = ap (λ (x : Tasked). x.passes) c.self.view_is;
    } in
    let mode : c.world.inside.parts.settings.mode ≡ mode_in c.args.world.now.consts =
    ap (λ (x : WorldValue). x.consts.settings.mode) c.world.view_is
    ∙ ap (λ (x : WorldConsts). x.settings.mode) c.try_step.ensures.consts in
    subst (λ (r : Turn). Goes c.args.world.now.consts c.args.self.now c.args.world.now.state
    (turned_to c.try_step.new.self.state c.go_on.new.task_state.position r))
    (sym c.go_on.ensures.turn)
    (goes_with c.args.world.now.consts c.args.self.now t room c.args.world.now.state
    (turned_to c.try_step.new.self.state c.go_on.new.task_state.position
    (turn_of c.in_ok-turned.turned))
    (turned_goes c.args.world.now.consts t c.args.world.now.state c.try_step.new.self.state
    c.try_step.new.passes c.try_step.new.hash_state c.try_step.result
    c.world.inside.parts.settings.mode c.go_on.new.task_state c.in_ok-turned.turned
    c.in_ok-turned.was c.try_step.ensures.reaches mode c.go_on.ensures.goes))

pub returns-in_err-reserve-clause-go : goal.returns-in_err-reserve-clause-go
returns-in_err-reserve-clause-go c =
    let p = err_from_is_err_and c.from_residual.result c.from_residual.ensures.1 in
    rw (p.1) tt

pub returns-in_err-turned-clause-go : goal.returns-in_err-turned-clause-go
returns-in_err-turned-clause-go c =
    let p = err_from_is_err_and c.from_residual-in_err-turned.result c.from_residual-in_err-turned.ensures.1 in
    rw (p.1) tt

pub returns-in_err-reserve-clause-number : goal.returns-in_err-reserve-clause-number
returns-in_err-reserve-clause-number c = ap (λ (x : Tasked). x.number) c.self.view_is

pub returns-in_err-reserve-clause-program : goal.returns-in_err-reserve-clause-program
returns-in_err-reserve-clause-program c =
    c.reserve.ensures.same.program ∙ ap (λ (x : Tasked). x.task_state.program) c.self.view_is

pub returns-in_err-turned-clause-number : goal.returns-in_err-turned-clause-number
returns-in_err-turned-clause-number c = ap (λ (x : Tasked). x.number) c.self.view_is

pub returns-in_err-turned-clause-program : goal.returns-in_err-turned-clause-program
returns-in_err-turned-clause-program c =
    c.reserve.ensures.same.program ∙ ap (λ (x : Tasked). x.task_state.program) c.self.view_is
