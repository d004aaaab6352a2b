-- The deed changes the inode's cell alone, and the answer gives its outcome.
use Rattle.std.proofs.Common.{Option, refl, sym, ◌∙◌, ap, subst}
use Rattle.std.specs.Prelude.{Result}
use Rattle.std.specs.declared.alloc.AllocError.{AllocError}
use Rattle.inode_events.specs.declared.told.Told.{Told}
use Rattle.task_steps.specs.Leaving as deeds
use Rattle.task_steps.specs.worlds.World.{WorldInodeValue}
use Rattle.task_steps.specs.task_states.Steps.{deed_in}
use Rattle.task_steps.proofs.Acted.{answered_told}
use Rattle.task_steps.specs.Acting.{WorldInodeDidAlone, told_in}
use Rattle.task_steps.specs.declared.answers.StepResult.{StepResult}
use Rattle.task_steps.proofs.alone.apply_alone_at.Goals as goal

pub returns-clause-did : goal.returns-clause-did
returns-clause-did c =
    let s = c.world_inode.inside in
    let st : WorldInodeValue = record { cell = s.cell; rules = s.rules; place = s.place } in
    let st2 : WorldInodeValue = record st { cell = c.look_and_apply_alone-told.new.cell } in
    let did : WorldInodeDidAlone st st2 c.args.pass.now c.look_and_apply_alone-told.new.pass
    c.args.actor.now.who (deed_in c.args.due) c.args.hash_state.now
    c.look_and_apply_alone-told.new.hash_state (deeds.told_in c.look_and_apply_alone-told.result) =
    record {
      looked = c.look_and_apply_alone-told.ensures.looked;
      leaves = c.look_and_apply_alone-told.ensures.leaves;
      rules = refl;
      place = refl;
      hashes = c.look_and_apply_alone-told.ensures.hashes;
    } in
    subst (λ (x : WorldInodeValue). WorldInodeDidAlone x st2 c.args.pass.now
    c.look_and_apply_alone-told.new.pass
    c.args.actor.now.who (deed_in c.args.due) c.args.hash_state.now
    c.look_and_apply_alone-told.new.hash_state (told_in c.told_at.result)) c.world_inode.view_is
    (subst (λ (o : Option Told). WorldInodeDidAlone st st2 c.args.pass.now
    c.look_and_apply_alone-told.new.pass
    c.args.actor.now.who (deed_in c.args.due) c.args.hash_state.now
    c.look_and_apply_alone-told.new.hash_state
    o) (sym (ap (λ (r : Result (Option StepResult) AllocError). told_in r) c.told_at.ensures
    ∙ answered_told c.len-place.result c.look_and_apply_alone-told.result)) did)
