-- A deed on the inode of the number, which is there.
use Rattle.std.proofs.Common.{◌<◌, ℕ, length, refl, subst, ◌∙◌}
use Rattle.task_core.proofs.Opens.{done_event, done_parts, done_said, done_spares, done_view, open_book, open_found, open_ready}
use Rattle.task_state.specs.Steps.{deed_in}
use Rattle.world_locks.proofs.about_acts.Calls.{does_count}
use Rattle.world_locks.specs.acts.Acting.{told_in}
use Rattle.task_core.proofs.world.World.apply.Goals as goal

pub apply_at-requires-clause-name : goal.apply_at-requires-clause-name
apply_at-requires-clause-name c =
    let w = c.self.inside.parts in
    let q = c.passes.inside in
    let within : c.args.i < length w.world_inodes.items =
    subst (λ (n : ℕ). c.args.i < n) (c.len.ensures ∙ w.world_inodes.ok.0) c.if-i-len.false in
    (open_found w.settings w.world_inodes.items w.supers.items w.book w.sems w.rules w.tasks
    c.self.invariant.parts c.args.self.now c.self.view_is q.inodes.items q.sems q.book q.rules
    c.args.passes.now c.passes.view_is c.args.actor.now.who.task c.requires.passes c.args.i
    c.index_mut.result.now c.index_mut-2.result.now within c.index_mut.ensures.value
    c.index_mut-2.ensures.value).0

pub apply_at-requires-clause-number : goal.apply_at-requires-clause-number
apply_at-requires-clause-number c =
    let w = c.self.inside.parts in
    let q = c.passes.inside in
    let within : c.args.i < length w.world_inodes.items =
    subst (λ (n : ℕ). c.args.i < n) (c.len.ensures ∙ w.world_inodes.ok.0) c.if-i-len.false in
    (open_found w.settings w.world_inodes.items w.supers.items w.book w.sems w.rules w.tasks
    c.self.invariant.parts c.args.self.now c.self.view_is q.inodes.items q.sems q.book q.rules
    c.args.passes.now c.passes.view_is c.args.actor.now.who.task c.requires.passes c.args.i
    c.index_mut.result.now c.index_mut-2.result.now within c.index_mut.ensures.value
    c.index_mut-2.ensures.value).1

pub apply_at-requires-clause-book_name : goal.apply_at-requires-clause-book_name
apply_at-requires-clause-book_name c =
    let w = c.self.inside.parts in
    let q = c.passes.inside in
    let within : c.args.i < length w.world_inodes.items =
    subst (λ (n : ℕ). c.args.i < n) (c.len.ensures ∙ w.world_inodes.ok.0) c.if-i-len.false in
    open_book w.settings w.world_inodes.items w.supers.items w.book w.sems w.rules w.tasks
    c.self.invariant.parts c.args.self.now c.self.view_is q.inodes.items q.sems q.book q.rules
    c.args.passes.now c.passes.view_is c.args.actor.now.who.task c.requires.passes c.args.i
    c.index_mut.result.now c.index_mut-2.result.now within c.index_mut.ensures.value
    c.index_mut-2.ensures.value

pub apply_at-requires-clause-ready : goal.apply_at-requires-clause-ready
apply_at-requires-clause-ready c =
    let w = c.self.inside.parts in
    let q = c.passes.inside in
    let within : c.args.i < length w.world_inodes.items =
    subst (λ (n : ℕ). c.args.i < n) (c.len.ensures ∙ w.world_inodes.ok.0) c.if-i-len.false in
    open_ready w.settings w.world_inodes.items w.supers.items w.book w.sems w.rules w.tasks
    c.self.invariant.parts c.args.self.now c.self.view_is q.inodes.items q.sems q.book q.rules
    c.args.passes.now c.passes.view_is c.args.actor.now.who.task c.requires.passes c.args.i
    c.index_mut.result.now c.index_mut-2.result.now within c.index_mut.ensures.value
    c.index_mut-2.ensures.value
    c.args.hash_state.now c.args.actor.now.action c.args.actor.now.slot (deed_in c.args.due)
    c.requires.ready

pub invariant_of-self : goal.invariant_of-self
invariant_of-self c =
    let w = c.self.inside.parts in
    let q = c.passes.inside in
    let within : c.args.i < length w.world_inodes.items =
    subst (λ (n : ℕ). c.args.i < n) (c.len.ensures ∙ w.world_inodes.ok.0) c.if-i-len.false in
    record {
      parts = done_parts w.settings w.world_inodes.items w.supers.items w.book w.sems
          w.rules w.tasks
          c.self.invariant.parts c.args.self.now c.self.view_is q.inodes.items q.sems q.book q.rules
          c.args.passes.now c.passes.view_is c.args.actor.now.who.task c.requires.passes c.args.i
          c.index_mut.result.now c.index_mut-2.result.now within c.index_mut.ensures.value
          c.index_mut-2.ensures.value
          c.apply_at.new.world_inode c.apply_at.new.book c.apply_at.new.pass c.apply_at.new.listed
          c.args.actor.now.who (deed_in c.args.due) c.args.hash_state.now
          c.apply_at.new.hash_state
          (told_in c.apply_at.result) (does_count _ c.args.due) refl c.apply_at.ensures.did;
      spares = done_spares w.settings w.world_inodes.items w.supers.items w.book w.sems
          w.rules w.tasks
          c.self.invariant.parts c.args.self.now c.self.view_is q.inodes.items q.sems q.book q.rules
          c.args.passes.now c.passes.view_is c.args.actor.now.who.task c.requires.passes c.args.i
          c.index_mut.result.now c.index_mut-2.result.now within c.index_mut.ensures.value
          c.index_mut-2.ensures.value
          c.apply_at.new.world_inode c.apply_at.new.book c.apply_at.new.pass c.apply_at.new.listed
          c.args.actor.now.who (deed_in c.args.due) c.args.hash_state.now
          c.apply_at.new.hash_state
          (told_in c.apply_at.result) (does_count _ c.args.due) refl c.apply_at.ensures.did
          w.spares.items c.self.invariant.spares;
    }

pub returns-clause-consts : goal.returns-clause-consts
returns-clause-consts c =
    let w = c.self.inside.parts in
    let q = c.passes.inside in
    let within : c.args.i < length w.world_inodes.items =
    subst (λ (n : ℕ). c.args.i < n) (c.len.ensures ∙ w.world_inodes.ok.0) c.if-i-len.false in
    done_view w.settings w.world_inodes.items w.supers.items w.book w.sems w.rules w.tasks
    c.self.invariant.parts c.args.self.now c.self.view_is q.inodes.items q.sems q.book q.rules
    c.args.passes.now c.passes.view_is c.args.actor.now.who.task c.requires.passes c.args.i
    c.index_mut.result.now c.index_mut-2.result.now within c.index_mut.ensures.value
    c.index_mut-2.ensures.value
    c.apply_at.new.world_inode c.apply_at.new.book c.apply_at.new.pass c.apply_at.new.listed
    c.args.actor.now.who (deed_in c.args.due) c.args.hash_state.now c.apply_at.new.hash_state
    (told_in c.apply_at.result) (does_count _ c.args.due) refl c.apply_at.ensures.did

pub returns-clause-event : goal.returns-clause-event
returns-clause-event c =
    let w = c.self.inside.parts in
    let q = c.passes.inside in
    let within : c.args.i < length w.world_inodes.items =
    subst (λ (n : ℕ). c.args.i < n) (c.len.ensures ∙ w.world_inodes.ok.0) c.if-i-len.false in
    done_event w.settings w.world_inodes.items w.supers.items w.book w.sems w.rules w.tasks
    c.self.invariant.parts c.args.self.now c.self.view_is q.inodes.items q.sems q.book q.rules
    c.args.passes.now c.passes.view_is c.args.actor.now.who.task c.requires.passes c.args.i
    c.index_mut.result.now c.index_mut-2.result.now within c.index_mut.ensures.value
    c.index_mut-2.ensures.value
    c.apply_at.new.world_inode c.apply_at.new.book c.apply_at.new.pass c.apply_at.new.listed
    c.args.actor.now.who (deed_in c.args.due) c.args.hash_state.now c.apply_at.new.hash_state
    (told_in c.apply_at.result) (does_count _ c.args.due) refl c.apply_at.ensures.did

pub returns-clause-told : goal.returns-clause-told
returns-clause-told c =
    let w = c.self.inside.parts in
    let q = c.passes.inside in
    let within : c.args.i < length w.world_inodes.items =
    subst (λ (n : ℕ). c.args.i < n) (c.len.ensures ∙ w.world_inodes.ok.0) c.if-i-len.false in
    done_said w.settings w.world_inodes.items w.supers.items w.book w.sems w.rules w.tasks
    c.self.invariant.parts c.args.self.now c.self.view_is q.inodes.items q.sems q.book q.rules
    c.args.passes.now c.passes.view_is c.args.actor.now.who.task c.requires.passes c.args.i
    c.index_mut.result.now c.index_mut-2.result.now within c.index_mut.ensures.value
    c.index_mut-2.ensures.value
    c.apply_at.result (deed_in c.args.due) c.apply_at.ensures.told c.apply_at.ensures.place
