-- A deed on the inode whose lock alone is held, as one that met the measurement list as its task
-- last saw it.
use Rattle.std.proofs.Common.{◌≡◌, ◌∙◌, ap}
use Rattle.task_state.specs.Steps.{deed_in}
use Rattle.world_locks.proofs.Opening.{deed_opened, pass_of, ready_of}
use Rattle.world_locks.specs.Tagged.{NumberedWorldInode}
use Rattle.world_locks.proofs.locks.Locks.apply_without_list.Goals as goal

pub apply_alone-requires-clause-pass : goal.apply_alone-requires-clause-pass
apply_alone-requires-clause-pass g c κs within =
    let p = c.passes.inside in
    let taken : c.deref_mut.result.now.number ≡ c.args.i =
    ap (λ (s : NumberedWorldInode). s.number) c.deref_mut.ensures.value ∙ c.take.ensures.number in
    pass_of p.inodes.items p.sems p.book p.rules c.args.passes.now c.passes.view_is
    c.args.actor.now.who g.N.Name.consts c.requires.passes c.args.i
    c.deref_mut.result.now.number taken c.requires.below c.index_mut.result.now
    c.index_mut.ensures.value

pub apply_alone-requires-clause-ready : goal.apply_alone-requires-clause-ready
apply_alone-requires-clause-ready g c κs within =
    let p = c.passes.inside in
    let taken : c.deref_mut.result.now.number ≡ c.args.i =
    ap (λ (s : NumberedWorldInode). s.number) c.deref_mut.ensures.value ∙ c.take.ensures.number in
    ready_of p.inodes.items p.sems p.book p.rules c.args.passes.now c.passes.view_is
    c.args.actor.now.who g.N.Name.consts c.requires.passes c.args.i
    c.deref_mut.result.now.number taken c.requires.below c.index_mut.result.now
    c.index_mut.ensures.value
    c.args.hash_state.now c.args.actor.now.action c.args.actor.now.slot (deed_in c.args.due)
    c.requires.ready

pub returns : goal.returns
returns g c =
    let p = c.passes.inside in
    let taken : c.deref_mut.result.now.number ≡ c.args.i =
    ap (λ (s : NumberedWorldInode). s.number) c.deref_mut.ensures.value ∙ c.take.ensures.number in
    deed_opened p.inodes.items p.sems p.book p.rules c.args.passes.now c.passes.view_is
    c.args.actor.now.who g.N.Name.consts c.requires.passes c.args.i
    c.deref_mut.result.now.number taken c.requires.below c.index_mut.result.now
    c.index_mut.ensures.value
    c.apply_alone.new.pass p.book (deed_in c.args.due) c.args.hash_state.now
    c.apply_alone.new.hash_state c.apply_alone.result (c.apply_alone.ensures.met p.book)
