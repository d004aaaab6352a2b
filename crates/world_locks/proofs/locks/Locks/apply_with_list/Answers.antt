-- A deed on the inode whose lock is held.
use Rattle.std.proofs.Common.{◌≡◌, ◌∙◌, ap}
use Rattle.task_state.specs.Steps.{deed_in}
use Rattle.world_locks.proofs.Opening.{are_opened, deed_opened, pass_of, ready_of}
use Rattle.world_locks.specs.Tagged.{NumberedWorldInode}
use Rattle.world_locks.proofs.locks.Locks.apply_with_list.Goals as goal

pub apply-requires-clause-pass : goal.apply-requires-clause-pass
apply-requires-clause-pass g c κs within =
    let p = c.passes.inside in
    let taken : c.deref_mut.result.now.number ≡ c.args.i =
    ap (λ (s : NumberedWorldInode). s.number) c.deref_mut.ensures.value
    ∙ c.take-world_inode.ensures.number in
    pass_of p.inodes.items p.sems p.book p.rules c.args.passes.now c.passes.view_is
    c.args.actor.now.who g.N.Name.consts c.requires.passes c.args.i
    c.deref_mut.result.now.number taken c.requires.below c.index_mut.result.now
    c.index_mut.ensures.value

pub apply-requires-clause-listed : goal.apply-requires-clause-listed
apply-requires-clause-listed g c κs within =
    let p = c.passes.inside in
    (are_opened p.inodes.items p.sems p.book p.rules c.args.passes.now c.passes.view_is
    c.args.actor.now.who g.N.Name.consts c.requires.passes).book.0

pub apply-requires-clause-ready : goal.apply-requires-clause-ready
apply-requires-clause-ready g c κs within =
    let p = c.passes.inside in
    let taken : c.deref_mut.result.now.number ≡ c.args.i =
    ap (λ (s : NumberedWorldInode). s.number) c.deref_mut.ensures.value
    ∙ c.take-world_inode.ensures.number in
    ready_of p.inodes.items p.sems p.book p.rules c.args.passes.now c.passes.view_is
    c.args.actor.now.who g.N.Name.consts c.requires.passes c.args.i
    c.deref_mut.result.now.number taken c.requires.below c.index_mut.result.now
    c.index_mut.ensures.value
    c.args.hash_state.now c.args.actor.now.action c.args.actor.now.slot (deed_in c.args.due)
    c.requires.ready

pub returns : goal.returns
returns g c =
    let p = c.passes.inside in
    let taken : c.deref_mut.result.now.number ≡ c.args.i =
    ap (λ (s : NumberedWorldInode). s.number) c.deref_mut.ensures.value
    ∙ c.take-world_inode.ensures.number in
    deed_opened p.inodes.items p.sems p.book p.rules c.args.passes.now c.passes.view_is
    c.args.actor.now.who g.N.Name.consts c.requires.passes c.args.i
    c.deref_mut.result.now.number taken c.requires.below c.index_mut.result.now
    c.index_mut.ensures.value
    c.apply.new.pass c.apply.new.listed (deed_in c.args.due) c.args.hash_state.now
    c.apply.new.hash_state c.apply.result c.apply.ensures.met
