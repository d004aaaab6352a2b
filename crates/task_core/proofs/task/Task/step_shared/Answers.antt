-- After its turn the task is still one of the world, and the turn was one on the lists that it met.
use Rattle.std.proofs.Common.{◌≡◌, ◌∙◌, ap, refl, sym, subst}
use Rattle.std.proofs.lemmas.Result.{err_from_is_err_and}
use Rattle.task_core.proofs.SharedSteps.{HasRoom, blocked_by, idle_adds, on_err, steps_with}
use Rattle.task_core.proofs.Turns.{left_still, task_same, turned_still}
use Rattle.world_model.specs.Tasks.{IsTask, Tasked}
use Rattle.world_locks.specs.Met.{mines_of, state_seen}
use Rattle.task_core.proofs.task.Task.step_shared.Goals as goal

pub returns-in_err-reserve-clause-still : goal.returns-in_err-reserve-clause-still
returns-in_err-reserve-clause-still g c =
    let t = c.self.inside in
    task_same g.N.Name.consts t.number t.task_state c.reserve.new.self t.hash_state t.passes
    c.reserve.ensures.same
    (subst (λ (x : Tasked). IsTask g.N.Name.consts x) (sym c.self.view_is) c.requires)

pub returns-in_err-reserve-clause-err : goal.returns-in_err-reserve-clause-err
returns-in_err-reserve-clause-err g c =
    on_err c.from_residual.result
    ((c.reserve.new.self.position ≡ c.args.self.now.task_state.position)
    × (mines_of c.self.inside.passes ≡ mines_of c.args.self.now.passes)) (
      c.reserve.ensures.same.position ∙ ap (λ (x : Tasked). x.task_state.position) c.self.view_is,
      ap (λ (x : Tasked). mines_of x.passes) c.self.view_is,
    )

pub try_step-requires-after_bounds : goal.try_step-requires-after_bounds
try_step-requires-after_bounds g c =
    λ κs out.
    let t = c.self.inside in
    task_same g.N.Name.consts t.number t.task_state c.reserve.new.self t.hash_state t.passes
    c.reserve.ensures.same
    (subst (λ (x : Tasked). IsTask g.N.Name.consts x) (sym c.self.view_is) c.requires)

pub returns-in_err-turned-clause-still : goal.returns-in_err-turned-clause-still
returns-in_err-turned-clause-still g c =
    let s = c.self.inside in
    let t : Tasked =
    record {
      number = s.number;
      task_state = c.reserve.new.self;
      hash_state = s.hash_state;
      passes = s.passes;
    } in
    let is : IsTask g.N.Name.consts t =
    task_same g.N.Name.consts s.number s.task_state c.reserve.new.self s.hash_state s.passes
    c.reserve.ensures.same
    (subst (λ (x : Tasked). IsTask g.N.Name.consts x) (sym c.self.view_is) c.requires) in
    left_still g.N.Name.consts g.N.Name.consts t c.in_err-turned.ensures.old
    (state_seen c.try_step.new.passes) c.try_step.new.passes c.try_step.new.hash_state refl is
    c.in_err-turned.ensures.reaches.plays

pub returns-in_err-turned-clause-err : goal.returns-in_err-turned-clause-err
returns-in_err-turned-clause-err g c =
    on_err c.from_residual-in_err-turned.result
    ((c.reserve.new.self.position ≡ c.args.self.now.task_state.position)
    × (mines_of c.try_step.new.passes ≡ mines_of c.args.self.now.passes)) (
      c.reserve.ensures.same.position ∙ ap (λ (x : Tasked). x.task_state.position) c.self.view_is,
      c.in_err-turned.ensures.idle tt ∙ ap (λ (x : Tasked). mines_of x.passes) c.self.view_is,
    )

pub returns-clause-still : goal.returns-clause-still
returns-clause-still g c =
    let s = c.self.inside in
    let t : Tasked =
    record {
      number = s.number;
      task_state = c.reserve.new.self;
      hash_state = s.hash_state;
      passes = s.passes;
    } in
    let is : IsTask g.N.Name.consts t =
    task_same g.N.Name.consts s.number s.task_state c.reserve.new.self s.hash_state s.passes
    c.reserve.ensures.same
    (subst (λ (x : Tasked). IsTask g.N.Name.consts x) (sym c.self.view_is) c.requires) in
    turned_still g.N.Name.consts g.N.Name.consts t c.try_step.ensures.old
    (state_seen c.try_step.new.passes) c.try_step.new.passes c.try_step.new.hash_state refl is
    c.try_step.result c.mode.result c.go_on.new.task_state c.in_ok-turned.turned
    c.in_ok-turned.was c.try_step.ensures.reaches c.mode.ensures c.go_on.ensures.goes

pub returns-clause-go : goal.returns-clause-go
returns-clause-go g c =
    let s = c.self.inside in
    let t : Tasked =
    record {
      number = s.number;
      task_state = c.reserve.new.self;
      hash_state = s.hash_state;
      passes = s.passes;
    } in
    let room : HasRoom c.args.self.now t =
    record {
      number = ap (λ (x : Tasked). x.number) c.self.view_is;
      program = c.reserve.ensures.same.program
          ∙ ap (λ (x : Tasked). x.task_state.program) c.self.view_is;
      position = c.reserve.ensures.same.position
          ∙ ap (λ (x : Tasked). x.task_state.position) c.self.view_is;
      passes = ap (λ (x : Tasked). x.passes) c.self.view_is;
    } in
    steps_with g.N.Name.consts c.args.self.now t room c.try_step.new.passes
    c.try_step.new.hash_state c.try_step.result c.in_ok-turned.turned c.in_ok-turned.was
    c.try_step.ensures c.go_on.result c.go_on.ensures.turn c.mode.result c.go_on.new.task_state
    c.mode.ensures c.go_on.ensures.goes

pub returns-clause-blocked : goal.returns-clause-blocked
returns-clause-blocked g c =
    let s = c.self.inside in
    let t : Tasked =
    record {
      number = s.number;
      task_state = c.reserve.new.self;
      hash_state = s.hash_state;
      passes = s.passes;
    } in
    let room : HasRoom c.args.self.now t =
    record {
      number = ap (λ (x : Tasked). x.number) c.self.view_is;
      program = c.reserve.ensures.same.program
          ∙ ap (λ (x : Tasked). x.task_state.program) c.self.view_is;
      position = c.reserve.ensures.same.position
          ∙ ap (λ (x : Tasked). x.task_state.position) c.self.view_is;
      passes = ap (λ (x : Tasked). x.passes) c.self.view_is;
    } in
    blocked_by g.N.Name.consts c.args.self.now t room c.try_step.new.passes
    c.try_step.new.hash_state c.try_step.result c.in_ok-turned.turned c.in_ok-turned.was
    c.try_step.ensures c.go_on.result c.go_on.ensures.turn

pub returns-clause-idle : goal.returns-clause-idle
returns-clause-idle g c =
    let s = c.self.inside in
    let t : Tasked =
    record {
      number = s.number;
      task_state = c.reserve.new.self;
      hash_state = s.hash_state;
      passes = s.passes;
    } in
    let room : HasRoom c.args.self.now t =
    record {
      number = ap (λ (x : Tasked). x.number) c.self.view_is;
      program = c.reserve.ensures.same.program
          ∙ ap (λ (x : Tasked). x.task_state.program) c.self.view_is;
      position = c.reserve.ensures.same.position
          ∙ ap (λ (x : Tasked). x.task_state.position) c.self.view_is;
      passes = ap (λ (x : Tasked). x.passes) c.self.view_is;
    } in
    idle_adds g.N.Name.consts c.args.self.now t room c.try_step.new.passes
    c.try_step.new.hash_state c.try_step.result c.in_ok-turned.turned c.in_ok-turned.was
    c.try_step.ensures c.go_on.result c.go_on.ensures.turn

pub returns-in_err-reserve-clause-go : goal.returns-in_err-reserve-clause-go
returns-in_err-reserve-clause-go g c =
    let p = err_from_is_err_and c.from_residual.result c.from_residual.ensures.1 in
    rw (p.1) tt

pub returns-in_err-reserve-clause-blocked : goal.returns-in_err-reserve-clause-blocked
returns-in_err-reserve-clause-blocked g c =
    let p = err_from_is_err_and c.from_residual.result c.from_residual.ensures.1 in
    rw (p.1) tt

pub returns-in_err-reserve-clause-idle : goal.returns-in_err-reserve-clause-idle
returns-in_err-reserve-clause-idle g c =
    let p = err_from_is_err_and c.from_residual.result c.from_residual.ensures.1 in
    rw (p.1) tt

pub returns-in_err-turned-clause-go : goal.returns-in_err-turned-clause-go
returns-in_err-turned-clause-go g c =
    let p = err_from_is_err_and c.from_residual-in_err-turned.result c.from_residual-in_err-turned.ensures.1 in
    rw (p.1) tt

pub returns-in_err-turned-clause-blocked : goal.returns-in_err-turned-clause-blocked
returns-in_err-turned-clause-blocked g c =
    let p = err_from_is_err_and c.from_residual-in_err-turned.result c.from_residual-in_err-turned.ensures.1 in
    rw (p.1) tt

pub returns-in_err-turned-clause-idle : goal.returns-in_err-turned-clause-idle
returns-in_err-turned-clause-idle g c =
    let p = err_from_is_err_and c.from_residual-in_err-turned.result c.from_residual-in_err-turned.ensures.1 in
    rw (p.1) tt

pub returns-in_err-reserve-clause-number : goal.returns-in_err-reserve-clause-number
returns-in_err-reserve-clause-number g c = ap (λ (x : Tasked). x.number) c.self.view_is

pub returns-in_err-reserve-clause-program : goal.returns-in_err-reserve-clause-program
returns-in_err-reserve-clause-program g c =
    c.reserve.ensures.same.program ∙ ap (λ (x : Tasked). x.task_state.program) c.self.view_is

pub returns-in_err-turned-clause-number : goal.returns-in_err-turned-clause-number
returns-in_err-turned-clause-number g c = ap (λ (x : Tasked). x.number) c.self.view_is

pub returns-in_err-turned-clause-program : goal.returns-in_err-turned-clause-program
returns-in_err-turned-clause-program g c =
    c.reserve.ensures.same.program ∙ ap (λ (x : Tasked). x.task_state.program) c.self.view_is
