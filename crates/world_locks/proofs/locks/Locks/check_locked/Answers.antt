-- A check of the inode whose lock is held.
use Rattle.std.proofs.Common.{◌≡◌, ◌∙◌, ap}
use Rattle.inode_events.specs.Checks.{no_action}
use Rattle.inode_events.specs.declared.deed.Deed.TheVariants as deed
use Rattle.world_locks.proofs.Opening.{are_opened, ask_opened, pass_of, ready_of}
use Rattle.world_locks.specs.Tagged.{NumberedWorldInode}
use Rattle.world_locks.proofs.locks.Locks.check_locked.Goals as goal

pub check-requires-clause-pass : goal.check-requires-clause-pass
check-requires-clause-pass g c κs within =
    let p = c.passes.inside in
    let taken : c.deref_mut.result.now.number ≡ c.args.i =
    ap (λ (s : NumberedWorldInode). s.number) c.deref_mut.ensures.value
    ∙ c.take-inode.ensures.number in
    pass_of p.inodes.items p.sems p.book p.rules c.args.passes.now c.passes.view_is
    c.args.actor.now.who g.N.Name.consts c.requires.passes c.args.i
    c.deref_mut.result.now.number taken c.requires.below c.index_mut.result.now
    c.index_mut.ensures.value

pub check-requires-clause-own : goal.check-requires-clause-own
check-requires-clause-own g c κs within =
    let p = c.passes.inside in
    (are_opened p.inodes.items p.sems p.book p.rules c.args.passes.now c.passes.view_is
    c.args.actor.now.who g.N.Name.consts c.requires.passes).rules.0

pub check-requires-clause-listed : goal.check-requires-clause-listed
check-requires-clause-listed g c κs within =
    let p = c.passes.inside in
    (are_opened p.inodes.items p.sems p.book p.rules c.args.passes.now c.passes.view_is
    c.args.actor.now.who g.N.Name.consts c.requires.passes).book.0

pub check-requires-clause-ready : goal.check-requires-clause-ready
check-requires-clause-ready g c κs within =
    let p = c.passes.inside in
    let taken : c.deref_mut.result.now.number ≡ c.args.i =
    ap (λ (s : NumberedWorldInode). s.number) c.deref_mut.ensures.value
    ∙ c.take-inode.ensures.number in
    λ h. ready_of p.inodes.items p.sems p.book p.rules c.args.passes.now c.passes.view_is
    c.args.actor.now.who g.N.Name.consts c.requires.passes c.args.i
    c.deref_mut.result.now.number taken c.requires.below c.index_mut.result.now
    c.index_mut.ensures.value
    h c.args.actor.now.action c.args.actor.now.slot
    (deed.Check c.args.asked.file c.args.asked.func no_action 0) (c.requires.ready h)

pub returns : goal.returns
returns g c =
    let p = c.passes.inside in
    let taken : c.deref_mut.result.now.number ≡ c.args.i =
    ap (λ (s : NumberedWorldInode). s.number) c.deref_mut.ensures.value
    ∙ c.take-inode.ensures.number in
    ask_opened p.inodes.items p.sems p.book p.rules c.args.passes.now c.passes.view_is
    c.args.actor.now.who g.N.Name.consts c.requires.passes c.args.i
    c.deref_mut.result.now.number taken c.requires.below c.index_mut.result.now
    c.index_mut.ensures.value
    c.check.new.pass c.check.new.listed c.check.new.own c.args.actor.now.cred.now c.args.asked
    c.check.result c.check.ensures.met
