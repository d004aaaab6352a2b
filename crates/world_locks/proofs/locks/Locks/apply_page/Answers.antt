-- A page that is hashed after the lock is released, as a deed that met the measurement list as its
-- task last saw it.
use Rattle.std.proofs.Common.{◌≡◌, ◌∙◌, Ok, Err, Some, None, ap}
use Rattle.std.proofs.lemmas.Result.{err_from_is_err_and}
use Rattle.task_state.specs.Steps.{deed_in}
use Rattle.world_locks.proofs.Opening.{deed_opened, look_of, may_of, pass_of, ready_of}
use Rattle.world_locks.proofs.Paging.{page_failed, page_met}
use Rattle.world_locks.proofs.WorldInodes.{its_ready}
use Rattle.world_locks.specs.Tagged.{NumberedWorldInode}
use Rattle.world_locks.proofs.locks.Locks.apply_page.Goals as goal

pub take_page-requires-clause-pass : goal.take_page-requires-clause-pass
take_page-requires-clause-pass g c κs within =
    let p = c.passes.inside in
    let taken : c.deref_mut.result.now.number ≡ c.args.i =
    ap (λ (s : NumberedWorldInode). s.number) c.deref_mut.ensures.value ∙ c.take.ensures.number in
    pass_of p.inodes.items p.sems p.book p.rules c.args.passes.now c.passes.view_is
    c.args.actor.now.who g.N.Name.consts c.requires.passes c.args.i
    c.deref_mut.result.now.number taken c.requires.below c.index_mut.result.now
    c.index_mut.ensures.value

pub take_page-requires-clause-may : goal.take_page-requires-clause-may
take_page-requires-clause-may g c κs within =
    let p = c.passes.inside in
    let taken : c.deref_mut.result.now.number ≡ c.args.i =
    ap (λ (s : NumberedWorldInode). s.number) c.deref_mut.ensures.value ∙ c.take.ensures.number in
    look_of p.inodes.items p.sems p.book p.rules c.args.passes.now c.passes.view_is
    c.args.actor.now.who g.N.Name.consts c.requires.passes c.args.i
    c.deref_mut.result.now.number taken c.requires.below c.index_mut.result.now
    c.index_mut.ensures.value (deed_in c.args.due)
    (may_of g.N.Name.consts c.args.i c.args.passes.now.inodes c.args.actor.now.who.task
    c.args.hash_state.now c.args.actor.now.action c.args.actor.now.slot (deed_in c.args.due)
    c.requires.ready)

pub returns-in_err-taken : goal.returns-in_err-taken
returns-in_err-taken g c =
    let e = err_from_is_err_and c.from_residual.result c.from_residual.ensures.1 in
    let p = c.passes.inside in
    let taken : c.deref_mut.result.now.number ≡ c.args.i =
    ap (λ (s : NumberedWorldInode). s.number) c.deref_mut.ensures.value ∙ c.take.ensures.number in
    rw (e.1) (deed_opened p.inodes.items p.sems p.book p.rules c.args.passes.now c.passes.view_is
    c.args.actor.now.who g.N.Name.consts c.requires.passes c.args.i
    c.deref_mut.result.now.number taken c.requires.below c.index_mut.result.now
    c.index_mut.ensures.value
    c.take_page.new.pass p.book (deed_in c.args.due) c.args.hash_state.now c.args.hash_state.now
    (Err e.0) (page_failed g.N.Name.consts c.deref_mut.result.now.number c.index_mut.result.now
    c.take_page.new.pass p.book c.args.actor.now.who (deed_in c.args.due) c.args.hash_state.now _
    e.0 c.in_err-taken.ensures.met))

pub returns : goal.returns
returns g c =
    let p = c.passes.inside in
    let taken : c.deref_mut.result.now.number ≡ c.args.i =
    ap (λ (s : NumberedWorldInode). s.number) c.deref_mut.ensures.value ∙ c.take.ensures.number in
    let m = c.in_ok-taken.ensures.met in
    let its = pass_of p.inodes.items p.sems p.book p.rules c.args.passes.now c.passes.view_is
    c.args.actor.now.who g.N.Name.consts c.requires.passes c.args.i
    c.deref_mut.result.now.number taken c.requires.below c.index_mut.result.now
    c.index_mut.ensures.value in
    let by = ready_of p.inodes.items p.sems p.book p.rules c.args.passes.now c.passes.view_is
    c.args.actor.now.who g.N.Name.consts c.requires.passes c.args.i
    c.deref_mut.result.now.number taken c.requires.below c.index_mut.result.now
    c.index_mut.ensures.value c.args.hash_state.now
    c.args.actor.now.action c.args.actor.now.slot (deed_in c.args.due) c.requires.ready in
    let ready = its_ready g.N.Name.consts c.deref_mut.result.now.number m.world_inode m.alone.is
    c.args.actor.now.who.task c.index_mut.result.now c.args.hash_state.now c.args.actor.now.action
    c.args.actor.now.slot (deed_in c.args.due) its by m.alone.looked in
    deed_opened p.inodes.items p.sems p.book p.rules c.args.passes.now c.passes.view_is
    c.args.actor.now.who g.N.Name.consts c.requires.passes c.args.i
    c.deref_mut.result.now.number taken c.requires.below c.index_mut.result.now
    c.index_mut.ensures.value
    c.take_page.new.pass p.book (deed_in c.args.due) c.args.hash_state.now
    c.gather.new.hash_state
    (Ok (Some (record {
      place = c.in_ok-taken.taken.place;
      told = c.piece_told-told.result;
      action =
          None;
    })))
    (page_met g.N.Name.consts c.deref_mut.result.now.number c.index_mut.result.now
    c.take_page.new.pass p.book c.args.actor.now.who (deed_in c.args.due) c.args.hash_state.now
    c.gather.new.hash_state c.in_ok-taken.taken c.requires.page m ready.hashes c.gather.ensures
    c.piece_told-told.result c.piece_told-told.ensures)
