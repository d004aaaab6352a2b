-- A deed on the inode under its lock.
use Rattle.task_state.specs.Steps.{deed_in}
use Rattle.task_steps.proofs.Calls.{does_count}
use Rattle.task_steps.specs.Acting.{told_in}
use Rattle.world_locks.proofs.Lists.{book_still}
use Rattle.world_locks.proofs.WorldInodes.{its_pass, its_ready, world_inode_at, world_inode_still}
use Rattle.world_locks.proofs.world_inode.TaggedWorldInode.apply.Goals as goal

pub apply_at-requires-clause-name : goal.apply_at-requires-clause-name
apply_at-requires-clause-name g c =
    let w = c.self.inside in
    let v = c.args.self.now in
    let is = world_inode_at g.N.Name.consts w.number w.world_inode v c.self.view_is
    c.self.invariant in
    (its_pass g.N.Name.consts v.number w.world_inode is c.args.actor.now.who.task c.args.pass.now
    c.requires.pass).0

pub apply_at-requires-clause-number : goal.apply_at-requires-clause-number
apply_at-requires-clause-number g c =
    let w = c.self.inside in
    let v = c.args.self.now in
    let is = world_inode_at g.N.Name.consts w.number w.world_inode v c.self.view_is
    c.self.invariant in
    (its_pass g.N.Name.consts v.number w.world_inode is c.args.actor.now.who.task c.args.pass.now
    c.requires.pass).1

pub apply_at-requires-clause-ready : goal.apply_at-requires-clause-ready
apply_at-requires-clause-ready g c =
    let w = c.self.inside in
    let v = c.args.self.now in
    let is = world_inode_at g.N.Name.consts w.number w.world_inode v c.self.view_is
    c.self.invariant in
    its_ready g.N.Name.consts v.number w.world_inode is c.args.actor.now.who.task c.args.pass.now
    c.args.hash_state.now c.args.actor.now.action c.args.actor.now.slot (deed_in c.args.due)
    c.requires.pass c.requires.ready

pub invariant_of-self : goal.invariant_of-self
invariant_of-self g c =
    let w = c.self.inside in
    world_inode_still g.N.Name.consts w.number w.world_inode c.self.invariant
    c.apply_at.new.world_inode c.book.inside.book c.apply_at.new.book
    c.args.pass.now c.apply_at.new.pass c.args.listed.now c.apply_at.new.listed c.args.actor.now.who
    (deed_in c.args.due) c.args.hash_state.now c.apply_at.new.hash_state
    (told_in c.apply_at.result) c.apply_at.ensures.did
    (does_count _ c.args.due)

pub invariant_of-book : goal.invariant_of-book
invariant_of-book g c =
    book_still g.N.Name.consts c.self.inside.world_inode c.apply_at.new.world_inode
    c.book.inside.book c.apply_at.new.book
    c.args.pass.now c.apply_at.new.pass c.args.listed.now c.apply_at.new.listed c.args.actor.now.who
    (deed_in c.args.due) c.args.hash_state.now c.apply_at.new.hash_state
    (told_in c.apply_at.result) c.apply_at.ensures.did c.book.invariant

pub returns-clause-met : goal.returns-clause-met
returns-clause-met g c =
    let w = c.self.inside in
    let v = c.args.self.now in
    let is = world_inode_at g.N.Name.consts w.number w.world_inode v c.self.view_is
    c.self.invariant in
    record {
      world_inode = w.world_inode;
      world_inode2 = c.apply_at.new.world_inode;
      book = c.book.inside.book;
      book2 = c.apply_at.new.book;
      is = is;
      did = c.apply_at.ensures.did;
      told = c.apply_at.ensures.told;
      place = c.apply_at.ensures.place;
    }
