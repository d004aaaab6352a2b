-- The step that is due is ready, and the turn is one on the lists that it met.
use Rattle.std.proofs.Common.{None, refl}
use Rattle.inode_events.specs.declared.deed.Deed.TheVariants as deed
use Rattle.inode_events.specs.declared.told.Told.TheVariants as told
use Rattle.run_model.specs.History.{step_at}
use Rattle.world_model.specs.Tasks.{Tasked}
use Rattle.task_state.specs.Steps.{deed_in}
use Rattle.task_state.specs.declared.step.Step.TheVariants as step
use Rattle.task_core.proofs.SharedSteps.{checks_met, does_met, nothing_met, over_met, rule_met, signals_met}
use Rattle.task_core.proofs.Turns.{checks_ready, does_ready, due_is, passes_ready}
use Rattle.task_core.proofs.live.Live.try_step.Goals as goal

pub lock_and_apply-requires-clause-passes : goal.lock_and_apply-requires-clause-passes
lock_and_apply-requires-clause-passes g c =
    let t : Tasked =
    record {
      number = c.args.number;
      task_state = c.args.task_state.now;
      hash_state = c.args.hash_state.now;
      passes = c.args.passes.now;
    } in
    λ κs out. passes_ready g.N.Name.consts t c.requires c.actor_of-actor.result.who c.actor_of-actor.ensures.who

pub lock_and_apply-requires-clause-ready : goal.lock_and_apply-requires-clause-ready
lock_and_apply-requires-clause-ready g c =
    let t : Tasked =
    record {
      number = c.args.number;
      task_state = c.args.task_state.now;
      hash_state = c.args.hash_state.now;
      passes = c.args.passes.now;
    } in
    let st = due_is (step_at t.task_state.program t.task_state.position.call_state)
    c.in-Some-Does.field-0
    (step.Does c.in-Some-Does.inode c.in-Some-Does.due) c.in-Some-Does.field-0-is
    c.in-Some-Does.ensures in
    λ κs out. does_ready g.N.Name.consts t c.requires c.actor_of-actor.result.who c.actor_of-actor.result.action
    c.actor_of-actor.result.slot c.in-Some-Does.inode (deed_in c.in-Some-Does.due) c.actor_of-actor.ensures.who
    c.actor_of-actor.ensures.action
    c.actor_of-actor.ensures.slot st

pub lock_and_check-requires-clause-passes : goal.lock_and_check-requires-clause-passes
lock_and_check-requires-clause-passes g c =
    let t : Tasked =
    record {
      number = c.args.number;
      task_state = c.args.task_state.now;
      hash_state = c.args.hash_state.now;
      passes = c.args.passes.now;
    } in
    λ κs out. passes_ready g.N.Name.consts t c.requires c.actor_of-actor.result.who c.actor_of-actor.ensures.who

pub lock_and_check-requires-clause-ready : goal.lock_and_check-requires-clause-ready
lock_and_check-requires-clause-ready g c =
    let t : Tasked =
    record {
      number = c.args.number;
      task_state = c.args.task_state.now;
      hash_state = c.args.hash_state.now;
      passes = c.args.passes.now;
    } in
    let st = due_is (step_at t.task_state.program t.task_state.position.call_state)
    c.in-Some-Checks.field-0
    (step.Checks c.in-Some-Checks.inode c.in-Some-Checks.file c.in-Some-Checks.func
    c.in-Some-Checks.mask) c.in-Some-Checks.field-0-is
    c.in-Some-Checks.ensures in
    λ κs out. checks_ready g.N.Name.consts t c.requires c.actor_of-actor.result.who c.actor_of-actor.result.action
    c.actor_of-actor.result.slot c.in-Some-Checks.inode c.in-Some-Checks.file c.in-Some-Checks.func
    c.in-Some-Checks.mask c.actor_of-actor.ensures.who c.actor_of-actor.ensures.action
    c.actor_of-actor.ensures.slot st

pub lock_and_signal-requires-after_bounds : goal.lock_and_signal-requires-after_bounds
lock_and_signal-requires-after_bounds g c =
    let t : Tasked =
    record {
      number = c.args.number;
      task_state = c.args.task_state.now;
      hash_state = c.args.hash_state.now;
      passes = c.args.passes.now;
    } in
    λ κs out. passes_ready g.N.Name.consts t c.requires c.actor_of-actor.result.who c.actor_of-actor.ensures.who

pub lock_and_signal-requires-in-Some-Waits-after_bounds : goal.lock_and_signal-requires-in-Some-Waits-after_bounds
lock_and_signal-requires-in-Some-Waits-after_bounds g c =
    let t : Tasked =
    record {
      number = c.args.number;
      task_state = c.args.task_state.now;
      hash_state = c.args.hash_state.now;
      passes = c.args.passes.now;
    } in
    λ κs out. passes_ready g.N.Name.consts t c.requires c.actor_of-actor.result.who c.actor_of-actor.ensures.who

pub lock_and_append-requires-after_bounds : goal.lock_and_append-requires-after_bounds
lock_and_append-requires-after_bounds g c =
    let t : Tasked =
    record {
      number = c.args.number;
      task_state = c.args.task_state.now;
      hash_state = c.args.hash_state.now;
      passes = c.args.passes.now;
    } in
    λ κs out. passes_ready g.N.Name.consts t c.requires c.actor_of-actor.result.who c.actor_of-actor.ensures.who

pub returns-in-None : goal.returns-in-None
returns-in-None g c =
    let t : Tasked =
    record {
      number = c.args.number;
      task_state = c.args.task_state.now;
      hash_state = c.args.hash_state.now;
      passes = c.args.passes.now;
    } in
    over_met g.N.Name.consts t c.in-None.ensures

pub returns-in-Some-Nothing : goal.returns-in-Some-Nothing
returns-in-Some-Nothing g c =
    let t : Tasked =
    record {
      number = c.args.number;
      task_state = c.args.task_state.now;
      hash_state = c.args.hash_state.now;
      passes = c.args.passes.now;
    } in
    let st = due_is (step_at t.task_state.program t.task_state.position.call_state)
    c.in-Some-Nothing.field-0 step.Nothing c.in-Some-Nothing.field-0-is
    c.in-Some-Nothing.ensures in
    nothing_met g.N.Name.consts t
    (record { place = 0; told = told.Nothing; action = None }) st refl refl refl

pub returns-in-Some-Does : goal.returns-in-Some-Does
returns-in-Some-Does g c =
    let t : Tasked =
    record {
      number = c.args.number;
      task_state = c.args.task_state.now;
      hash_state = c.args.hash_state.now;
      passes = c.args.passes.now;
    } in
    let st = due_is (step_at t.task_state.program t.task_state.position.call_state)
    c.in-Some-Does.field-0
    (step.Does c.in-Some-Does.inode c.in-Some-Does.due) c.in-Some-Does.field-0-is
    c.in-Some-Does.ensures in
    does_met g.N.Name.consts t c.lock_and_apply.new.passes c.actor_of-actor.result.who c.actor_of-actor.ensures.who
    c.in-Some-Does.inode
    (deed_in c.in-Some-Does.due)
    c.lock_and_apply.new.hash_state c.lock_and_apply.result c.turn_result_of.result st
    c.lock_and_apply.ensures c.turn_result_of.ensures

pub returns-in-Some-Checks : goal.returns-in-Some-Checks
returns-in-Some-Checks g c =
    let t : Tasked =
    record {
      number = c.args.number;
      task_state = c.args.task_state.now;
      hash_state = c.args.hash_state.now;
      passes = c.args.passes.now;
    } in
    let st = due_is (step_at t.task_state.program t.task_state.position.call_state)
    c.in-Some-Checks.field-0
    (step.Checks c.in-Some-Checks.inode c.in-Some-Checks.file c.in-Some-Checks.func
    c.in-Some-Checks.mask) c.in-Some-Checks.field-0-is
    c.in-Some-Checks.ensures in
    checks_met g.N.Name.consts t c.lock_and_check.new.passes c.actor_of-actor.result.who c.actor_of-actor.ensures.who
    c.in-Some-Checks.inode
    (record {
      file = c.in-Some-Checks.file;
      func = c.in-Some-Checks.func;
      mask =
          c.in-Some-Checks.mask;
    }) c.actor_of-actor.result.cred.now
    c.lock_and_check.result c.turn_result_of-in-Some-Checks.result st c.actor_of-actor.ensures.cred
    c.lock_and_check.ensures c.turn_result_of-in-Some-Checks.ensures

pub returns-in-Some-Posts : goal.returns-in-Some-Posts
returns-in-Some-Posts g c =
    let t : Tasked =
    record {
      number = c.args.number;
      task_state = c.args.task_state.now;
      hash_state = c.args.hash_state.now;
      passes = c.args.passes.now;
    } in
    let st = due_is (step_at t.task_state.program t.task_state.position.call_state)
    c.in-Some-Posts.field-0 (step.Posts c.in-Some-Posts.sem) c.in-Some-Posts.field-0-is
    c.in-Some-Posts.ensures in
    signals_met g.N.Name.consts t c.lock_and_signal.new.passes c.actor_of-actor.result.who c.actor_of-actor.ensures.who
    (deed.Post c.in-Some-Posts.sem)
    c.lock_and_signal.result
    c.turn_result_of-in-Some-Posts.result st c.lock_and_signal.ensures
    c.turn_result_of-in-Some-Posts.ensures

pub returns-in-Some-Waits : goal.returns-in-Some-Waits
returns-in-Some-Waits g c =
    let t : Tasked =
    record {
      number = c.args.number;
      task_state = c.args.task_state.now;
      hash_state = c.args.hash_state.now;
      passes = c.args.passes.now;
    } in
    let st = due_is (step_at t.task_state.program t.task_state.position.call_state)
    c.in-Some-Waits.field-0 (step.Waits c.in-Some-Waits.sem) c.in-Some-Waits.field-0-is
    c.in-Some-Waits.ensures in
    signals_met g.N.Name.consts t
    c.lock_and_signal-in-Some-Waits.new.passes c.actor_of-actor.result.who c.actor_of-actor.ensures.who
    (deed.Wait c.in-Some-Waits.sem) c.lock_and_signal-in-Some-Waits.result
    c.turn_result_of-in-Some-Waits.result st c.lock_and_signal-in-Some-Waits.ensures
    c.turn_result_of-in-Some-Waits.ensures

pub returns-in-Some-Appends : goal.returns-in-Some-Appends
returns-in-Some-Appends g c =
    let t : Tasked =
    record {
      number = c.args.number;
      task_state = c.args.task_state.now;
      hash_state = c.args.hash_state.now;
      passes = c.args.passes.now;
    } in
    let st = due_is (step_at t.task_state.program t.task_state.position.call_state)
    c.in-Some-Appends.field-0
    (step.Appends c.in-Some-Appends.rule) c.in-Some-Appends.field-0-is c.in-Some-Appends.ensures in
    rule_met g.N.Name.consts t c.lock_and_append.new.passes c.actor_of-actor.result.who
    c.actor_of-actor.ensures.who c.in-Some-Appends.rule.now c.lock_and_append.result
    c.turn_told.result st c.lock_and_append.ensures.appends c.lock_and_append.ensures.err
    c.turn_told.ensures
