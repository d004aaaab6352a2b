-- The step that is due is ready, and its result is a turn.
use Rattle.std.proofs.Common.{None, refl}
use Rattle.inode_events.specs.declared.deed.Deed.TheVariants as deed
use Rattle.inode_events.specs.declared.told.Told.TheVariants as told
use Rattle.run_model.specs.History.{step_at}
use Rattle.world_model.specs.Tasks.{Tasked}
use Rattle.task_state.specs.Steps.{deed_in}
use Rattle.task_state.specs.declared.step.Step.TheVariants as step
use Rattle.world_locks.proofs.about_acts.Sharing.{nothing_tells}
use Rattle.task_core.proofs.Turns.{check_turn, checks_ready, does_ready, does_turn, due_is, over_turn, passes_ready, rule_turn, signals_turn}
use Rattle.task_core.proofs.world.World.try_step.Goals as goal

pub apply-requires-clause-passes : goal.apply-requires-clause-passes
apply-requires-clause-passes c =
    let t : Tasked =
    record {
      number = c.args.number;
      task_state = c.args.task_state.now;
      hash_state = c.args.hash_state.now;
      passes = c.args.passes.now;
    } in
    passes_ready c.args.self.now.consts t c.requires c.actor_of-actor.result.who c.actor_of-actor.ensures.who

pub check-requires-clause-passes : goal.check-requires-clause-passes
check-requires-clause-passes c =
    let t : Tasked =
    record {
      number = c.args.number;
      task_state = c.args.task_state.now;
      hash_state = c.args.hash_state.now;
      passes = c.args.passes.now;
    } in
    passes_ready c.args.self.now.consts t c.requires c.actor_of-actor.result.who c.actor_of-actor.ensures.who

pub signal-requires : goal.signal-requires
signal-requires c =
    let t : Tasked =
    record {
      number = c.args.number;
      task_state = c.args.task_state.now;
      hash_state = c.args.hash_state.now;
      passes = c.args.passes.now;
    } in
    passes_ready c.args.self.now.consts t c.requires c.actor_of-actor.result.who c.actor_of-actor.ensures.who

pub signal-requires-in-Some-Waits : goal.signal-requires-in-Some-Waits
signal-requires-in-Some-Waits c =
    let t : Tasked =
    record {
      number = c.args.number;
      task_state = c.args.task_state.now;
      hash_state = c.args.hash_state.now;
      passes = c.args.passes.now;
    } in
    passes_ready c.args.self.now.consts t c.requires c.actor_of-actor.result.who c.actor_of-actor.ensures.who

pub append-requires : goal.append-requires
append-requires c =
    let t : Tasked =
    record {
      number = c.args.number;
      task_state = c.args.task_state.now;
      hash_state = c.args.hash_state.now;
      passes = c.args.passes.now;
    } in
    passes_ready c.args.self.now.consts t c.requires c.actor_of-actor.result.who c.actor_of-actor.ensures.who

pub apply-requires-clause-ready : goal.apply-requires-clause-ready
apply-requires-clause-ready c =
    let t : Tasked =
    record {
      number = c.args.number;
      task_state = c.args.task_state.now;
      hash_state = c.args.hash_state.now;
      passes = c.args.passes.now;
    } in
    let st = due_is (step_at t.task_state.program t.task_state.position.call_state)
    c.in-Some-Does.field-0
    (step.Does c.in-Some-Does.inode c.in-Some-Does.due) c.in-Some-Does.field-0-is
    c.in-Some-Does.ensures in
    does_ready c.args.self.now.consts t c.requires c.actor_of-actor.result.who c.actor_of-actor.result.action
    c.actor_of-actor.result.slot c.in-Some-Does.inode (deed_in c.in-Some-Does.due) c.actor_of-actor.ensures.who
    c.actor_of-actor.ensures.action
    c.actor_of-actor.ensures.slot st

pub check-requires-clause-ready : goal.check-requires-clause-ready
check-requires-clause-ready c =
    let t : Tasked =
    record {
      number = c.args.number;
      task_state = c.args.task_state.now;
      hash_state = c.args.hash_state.now;
      passes = c.args.passes.now;
    } in
    let st = due_is (step_at t.task_state.program t.task_state.position.call_state)
    c.in-Some-Checks.field-0
    (step.Checks c.in-Some-Checks.inode c.in-Some-Checks.file c.in-Some-Checks.func
    c.in-Some-Checks.mask) c.in-Some-Checks.field-0-is c.in-Some-Checks.ensures in
    checks_ready c.args.self.now.consts t c.requires c.actor_of-actor.result.who c.actor_of-actor.result.action
    c.actor_of-actor.result.slot c.in-Some-Checks.inode c.in-Some-Checks.file c.in-Some-Checks.func
    c.in-Some-Checks.mask c.actor_of-actor.ensures.who c.actor_of-actor.ensures.action
    c.actor_of-actor.ensures.slot st

pub returns-in-Some-Nothing-clause-reaches : goal.returns-in-Some-Nothing-clause-reaches
returns-in-Some-Nothing-clause-reaches c =
    let t : Tasked =
    record {
      number = c.args.number;
      task_state = c.args.task_state.now;
      hash_state = c.args.hash_state.now;
      passes = c.args.passes.now;
    } in
    let st = due_is (step_at t.task_state.program t.task_state.position.call_state)
    c.in-Some-Nothing.field-0 step.Nothing c.in-Some-Nothing.field-0-is c.in-Some-Nothing.ensures in
    nothing_tells c.args.self.now.consts t c.args.self.now.state
    (record { place = 0; told = told.Nothing; action = None }) st refl refl refl

pub returns-in-Some-Does-clause-reaches : goal.returns-in-Some-Does-clause-reaches
returns-in-Some-Does-clause-reaches c =
    let t : Tasked =
    record {
      number = c.args.number;
      task_state = c.args.task_state.now;
      hash_state = c.args.hash_state.now;
      passes = c.args.passes.now;
    } in
    let st = due_is (step_at t.task_state.program t.task_state.position.call_state)
    c.in-Some-Does.field-0
    (step.Does c.in-Some-Does.inode c.in-Some-Does.due) c.in-Some-Does.field-0-is
    c.in-Some-Does.ensures in
    does_turn c.args.self.now.consts t c.args.self.now.state c.apply.new.self.state
    c.apply.new.passes c.actor_of-actor.result.who c.actor_of-actor.ensures.who c.in-Some-Does.inode
    (deed_in c.in-Some-Does.due)
    c.apply.new.hash_state c.apply.result c.turn_result_of.result st c.apply.ensures.event
    c.apply.ensures.told c.turn_result_of.ensures

pub returns-in-Some-Checks-clause-reaches : goal.returns-in-Some-Checks-clause-reaches
returns-in-Some-Checks-clause-reaches c =
    let t : Tasked =
    record {
      number = c.args.number;
      task_state = c.args.task_state.now;
      hash_state = c.args.hash_state.now;
      passes = c.args.passes.now;
    } in
    let st = due_is (step_at t.task_state.program t.task_state.position.call_state)
    c.in-Some-Checks.field-0
    (step.Checks c.in-Some-Checks.inode c.in-Some-Checks.file c.in-Some-Checks.func
    c.in-Some-Checks.mask) c.in-Some-Checks.field-0-is c.in-Some-Checks.ensures in
    check_turn c.args.self.now.consts t c.args.self.now.state c.check.new.self.state
    c.check.new.passes c.actor_of-actor.result.who c.actor_of-actor.ensures.who c.in-Some-Checks.inode
    (record {
      file = c.in-Some-Checks.file;
      func = c.in-Some-Checks.func;
      mask =
          c.in-Some-Checks.mask;
    }) c.actor_of-actor.result.cred.now
    c.check.result c.turn_result_of-in-Some-Checks.result st c.actor_of-actor.ensures.cred c.check.ensures.check
    c.turn_result_of-in-Some-Checks.ensures

pub returns-in-Some-Posts-clause-reaches : goal.returns-in-Some-Posts-clause-reaches
returns-in-Some-Posts-clause-reaches c =
    let t : Tasked =
    record {
      number = c.args.number;
      task_state = c.args.task_state.now;
      hash_state = c.args.hash_state.now;
      passes = c.args.passes.now;
    } in
    let st = due_is (step_at t.task_state.program t.task_state.position.call_state)
    c.in-Some-Posts.field-0
    (step.Posts c.in-Some-Posts.sem) c.in-Some-Posts.field-0-is c.in-Some-Posts.ensures in
    signals_turn c.args.self.now.consts t c.args.self.now.state c.signal.new.self.state
    c.signal.new.passes c.actor_of-actor.result.who c.actor_of-actor.ensures.who (deed.Post c.in-Some-Posts.sem)
    c.signal.result
    c.turn_result_of-in-Some-Posts.result st c.signal.ensures.signals c.signal.ensures.told
    c.turn_result_of-in-Some-Posts.ensures

pub returns-in-Some-Waits-clause-reaches : goal.returns-in-Some-Waits-clause-reaches
returns-in-Some-Waits-clause-reaches c =
    let t : Tasked =
    record {
      number = c.args.number;
      task_state = c.args.task_state.now;
      hash_state = c.args.hash_state.now;
      passes = c.args.passes.now;
    } in
    let st = due_is (step_at t.task_state.program t.task_state.position.call_state)
    c.in-Some-Waits.field-0
    (step.Waits c.in-Some-Waits.sem) c.in-Some-Waits.field-0-is c.in-Some-Waits.ensures in
    signals_turn c.args.self.now.consts t c.args.self.now.state
    c.signal-in-Some-Waits.new.self.state
    c.signal-in-Some-Waits.new.passes c.actor_of-actor.result.who c.actor_of-actor.ensures.who
    (deed.Wait c.in-Some-Waits.sem) c.signal-in-Some-Waits.result
    c.turn_result_of-in-Some-Waits.result st c.signal-in-Some-Waits.ensures.signals
    c.signal-in-Some-Waits.ensures.told c.turn_result_of-in-Some-Waits.ensures

pub returns-in-Some-Appends-clause-reaches : goal.returns-in-Some-Appends-clause-reaches
returns-in-Some-Appends-clause-reaches c =
    let t : Tasked =
    record {
      number = c.args.number;
      task_state = c.args.task_state.now;
      hash_state = c.args.hash_state.now;
      passes = c.args.passes.now;
    } in
    let st = due_is (step_at t.task_state.program t.task_state.position.call_state)
    c.in-Some-Appends.field-0
    (step.Appends c.in-Some-Appends.rule) c.in-Some-Appends.field-0-is c.in-Some-Appends.ensures in
    rule_turn c.args.self.now.consts t c.args.self.now.state c.append.new.self.state
    c.append.new.passes c.actor_of-actor.result.who c.actor_of-actor.ensures.who
    c.in-Some-Appends.rule.now c.append.result c.turn_told.result st c.append.ensures.appends
    c.append.ensures.told c.append.ensures.err c.turn_told.ensures

pub returns-in-None-clause-reaches : goal.returns-in-None-clause-reaches
returns-in-None-clause-reaches c =
    let t : Tasked =
    record {
      number = c.args.number;
      task_state = c.args.task_state.now;
      hash_state = c.args.hash_state.now;
      passes = c.args.passes.now;
    } in
    over_turn c.args.self.now.consts t c.args.self.now.state c.in-None.ensures

pub returns-in-None-clause-consts : goal.returns-in-None-clause-consts
returns-in-None-clause-consts c = refl

pub returns-in-Some-Nothing-clause-consts : goal.returns-in-Some-Nothing-clause-consts
returns-in-Some-Nothing-clause-consts c = refl

pub returns-in-Some-Does-clause-consts : goal.returns-in-Some-Does-clause-consts
returns-in-Some-Does-clause-consts c = c.apply.ensures.consts

pub returns-in-Some-Checks-clause-consts : goal.returns-in-Some-Checks-clause-consts
returns-in-Some-Checks-clause-consts c = c.check.ensures.consts

pub returns-in-Some-Posts-clause-consts : goal.returns-in-Some-Posts-clause-consts
returns-in-Some-Posts-clause-consts c = c.signal.ensures.consts

pub returns-in-Some-Waits-clause-consts : goal.returns-in-Some-Waits-clause-consts
returns-in-Some-Waits-clause-consts c = c.signal-in-Some-Waits.ensures.consts

pub returns-in-Some-Appends-clause-consts : goal.returns-in-Some-Appends-clause-consts
returns-in-Some-Appends-clause-consts c = c.append.ensures.consts
