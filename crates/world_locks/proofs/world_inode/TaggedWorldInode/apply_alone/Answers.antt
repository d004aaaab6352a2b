-- A deed on the inode under its lock, from the view of a pass of the measurement list.
use Rattle.std.proofs.Common.{[]}
use Rattle.task_state.specs.Steps.{deed_in}
use Rattle.task_steps.proofs.Calls.{does_count}
use Rattle.task_steps.specs.Acting.{told_in}
use Rattle.world_locks.proofs.Paging.{alone_met}
use Rattle.world_locks.proofs.WorldInodes.{its_pass, its_ready, world_inode_at, world_inode_left}
use Rattle.world_locks.proofs.world_inode.TaggedWorldInode.apply_alone.Goals as goal

pub apply_alone_at-requires-clause-name : goal.apply_alone_at-requires-clause-name
apply_alone_at-requires-clause-name g c =
    let w = c.self.inside in
    let v = c.args.self.now in
    let is = world_inode_at g.N.Name.consts w.number w.world_inode v c.self.view_is
    c.self.invariant in
    (its_pass g.N.Name.consts v.number w.world_inode is c.args.actor.now.who.task c.args.pass.now
    c.requires.pass).0

pub apply_alone_at-requires-clause-number : goal.apply_alone_at-requires-clause-number
apply_alone_at-requires-clause-number g c =
    let w = c.self.inside in
    let v = c.args.self.now in
    let is = world_inode_at g.N.Name.consts w.number w.world_inode v c.self.view_is
    c.self.invariant in
    (its_pass g.N.Name.consts v.number w.world_inode is c.args.actor.now.who.task c.args.pass.now
    c.requires.pass).1

pub apply_alone_at-requires-clause-ready : goal.apply_alone_at-requires-clause-ready
apply_alone_at-requires-clause-ready g c =
    let w = c.self.inside in
    let v = c.args.self.now in
    let is = world_inode_at g.N.Name.consts w.number w.world_inode v c.self.view_is
    c.self.invariant in
    its_ready g.N.Name.consts v.number w.world_inode is c.args.actor.now.who.task c.args.pass.now
    c.args.hash_state.now c.args.actor.now.action c.args.actor.now.slot (deed_in c.args.due)
    c.requires.pass c.requires.ready

pub invariant_of-self : goal.invariant_of-self
invariant_of-self g c =
    let w = c.self.inside in
    let did = c.apply_alone_at.ensures.did in
    world_inode_left g.N.Name.consts w.number w.world_inode c.self.invariant
    c.apply_alone_at.new.world_inode
    [] [] c.args.pass.now c.apply_alone_at.new.pass c.args.actor.now.who (deed_in c.args.due)
    (told_in c.apply_alone_at.result) (did.leaves []) did.rules did.place
    (does_count _ c.args.due)

pub returns-clause-met : goal.returns-clause-met
returns-clause-met g c =
    let w = c.self.inside in
    let v = c.args.self.now in
    let is = world_inode_at g.N.Name.consts w.number w.world_inode v c.self.view_is
    c.self.invariant in
    λ listed. alone_met g.N.Name.consts v.number c.args.pass.now c.apply_alone_at.new.pass listed
    c.args.actor.now.who (deed_in c.args.due) c.args.hash_state.now
    c.apply_alone_at.new.hash_state
    w.world_inode c.apply_alone_at.new.world_inode c.apply_alone_at.result is
    c.apply_alone_at.ensures.did c.apply_alone_at.ensures.told c.apply_alone_at.ensures.place
