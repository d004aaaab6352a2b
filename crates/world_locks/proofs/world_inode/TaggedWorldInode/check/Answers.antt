-- A check of the inode under its lock, after two looks at the appended rules.
use Rattle.std.proofs.Common.{◌<◌, List, length, subst, sym}
use Rattle.inode_events.specs.Checks.{no_action}
use Rattle.inode_events.specs.declared.deed.Deed.TheVariants as deed
use Rattle.policy_rules.specs.declared.access.Super.{Super}
use Rattle.world_close.specs.worlds.World.{IsWorldInode, WorldInodeValue}
use Rattle.world_close.specs.worlds.declared.hash_state.HashState.TheVariants as hash_state
use Rattle.world_locks.proofs.Asking.{asked_book, asked_world_inode, asks}
use Rattle.world_locks.proofs.WorldInodes.{its_may, world_inode_opened}
use Rattle.world_locks.proofs.world_inode.TaggedWorldInode.check.Goals as goal

pub check_at-requires-clause-ready : goal.check_at-requires-clause-ready
check_at-requires-clause-ready g c =
    let w = c.self.inside in
    let s = c.world_inode.inside in
    let v = c.args.self.now in
    let st : WorldInodeValue = record { cell = s.cell; rules = s.rules; place = s.place } in
    let is : IsWorldInode g.N.Name.consts v.number st =
    world_inode_opened g.N.Name.consts w.number st w.world_inode v c.world_inode.view_is
    c.self.view_is c.self.invariant in
    its_may g.N.Name.consts v.number st is c.args.actor.now.who.task c.args.pass.now
    hash_state.Idle c.args.actor.now.action c.args.actor.now.slot
    (deed.Check c.args.asked.file c.args.asked.func no_action 0)
    c.requires.pass (c.requires.ready hash_state.Idle)

pub look_by_both-requires-clause-first : goal.look_by_both-requires-clause-first
look_by_both-requires-clause-first g c κs within =
    let s = c.world_inode.inside in
    let st : WorldInodeValue = record { cell = s.cell; rules = s.rules; place = s.place } in
    let is : IsWorldInode g.N.Name.consts c.self.inside.number st =
    subst (λ (x : WorldInodeValue). IsWorldInode g.N.Name.consts c.self.inside.number x)
    (sym c.world_inode.view_is) c.self.invariant in
    is.rules_name

pub look_by_both-requires-clause-second : goal.look_by_both-requires-clause-second
look_by_both-requires-clause-second g c κs within = c.requires.own

pub invariant_of-self : goal.invariant_of-self
invariant_of-self g c =
    let w = c.self.inside in
    let s = c.world_inode.inside in
    let st : WorldInodeValue = record { cell = s.cell; rules = s.rules; place = s.place } in
    let is : IsWorldInode g.N.Name.consts w.number st =
    subst (λ (x : WorldInodeValue). IsWorldInode g.N.Name.consts w.number x)
    (sym c.world_inode.view_is) c.self.invariant in
    let within : s.place < length c.args.supers.now =
    subst (λ (xs : List Super). s.place < length xs) (sym c.requires.supers) is.place in
    asked_world_inode g.N.Name.consts w.number st c.check_at.new.world_inode is c.args.rules.now
    c.look_by_both.new.self c.in_force.ensures.kept c.look_by_both.new.first c.args.own.now
    c.look_by_both.new.second c.look_by_both.ensures.first c.look_by_both.ensures.second
    c.args.supers.now c.requires.supers c.index-supers-world_inode.result within
    c.index-supers-world_inode.is c.in_force.result.now c.in_force.ensures.index
    c.book.inside.book c.check_at.new.book c.args.pass.now c.check_at.new.pass
    c.args.listed.now c.check_at.new.listed c.args.actor.now.who c.args.actor.now.cred.now
    c.args.asked c.check_at.result c.check_at.ensures.did c.check_at.ensures.told

pub invariant_of-book : goal.invariant_of-book
invariant_of-book g c =
    let w = c.self.inside in
    let s = c.world_inode.inside in
    let st : WorldInodeValue = record { cell = s.cell; rules = s.rules; place = s.place } in
    let is : IsWorldInode g.N.Name.consts w.number st =
    subst (λ (x : WorldInodeValue). IsWorldInode g.N.Name.consts w.number x)
    (sym c.world_inode.view_is) c.self.invariant in
    let within : s.place < length c.args.supers.now =
    subst (λ (xs : List Super). s.place < length xs) (sym c.requires.supers) is.place in
    asked_book g.N.Name.consts w.number st c.check_at.new.world_inode is c.args.rules.now
    c.look_by_both.new.self c.in_force.ensures.kept c.look_by_both.new.first c.args.own.now
    c.look_by_both.new.second c.look_by_both.ensures.first c.look_by_both.ensures.second
    c.args.supers.now c.requires.supers c.index-supers-world_inode.result within
    c.index-supers-world_inode.is c.in_force.result.now c.in_force.ensures.index
    c.book.inside.book c.check_at.new.book c.args.pass.now c.check_at.new.pass
    c.args.listed.now c.check_at.new.listed c.args.actor.now.who c.args.actor.now.cred.now
    c.args.asked c.check_at.result c.check_at.ensures.did c.check_at.ensures.told c.book.invariant

pub returns-clause-met : goal.returns-clause-met
returns-clause-met g c =
    let w = c.self.inside in
    let s = c.world_inode.inside in
    let v = c.args.self.now in
    let st : WorldInodeValue = record { cell = s.cell; rules = s.rules; place = s.place } in
    let is : IsWorldInode g.N.Name.consts v.number st =
    world_inode_opened g.N.Name.consts w.number st w.world_inode v c.world_inode.view_is
    c.self.view_is c.self.invariant in
    let within : s.place < length c.args.supers.now =
    subst (λ (xs : List Super). s.place < length xs) (sym c.requires.supers) is.place in
    asks g.N.Name.consts v.number st c.check_at.new.world_inode is c.args.rules.now
    c.look_by_both.new.self c.in_force.ensures.kept c.look_by_both.new.first c.args.own.now
    c.look_by_both.new.second c.look_by_both.ensures.first c.look_by_both.ensures.second
    c.args.supers.now c.requires.supers c.index-supers-world_inode.result within
    c.index-supers-world_inode.is c.in_force.result.now c.in_force.ensures.index
    c.book.inside.book c.check_at.new.book c.args.pass.now c.check_at.new.pass
    c.args.listed.now c.check_at.new.listed c.args.actor.now.who c.args.actor.now.cred.now
    c.args.asked c.check_at.result c.check_at.ensures.did c.check_at.ensures.told
