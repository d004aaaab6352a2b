-- A check on the inode of the number, which is there, after two looks at the appended rules.
use Rattle.std.proofs.Common.{◌<◌, ℕ, length, refl, subst, sym, ◌∙◌}
use Rattle.inode_events.specs.Checks.{no_action}
use Rattle.inode_events.specs.declared.deed.Deed.TheVariants as deed
use Rattle.task_core.proofs.Checks.{RulesLooked}
use Rattle.task_core.proofs.Inspects.{inspect_book, inspect_found, inspect_may, inspect_place, inspect_rules, inspected_check, inspected_consts, inspected_parts, inspected_spares}
use Rattle.task_core.proofs.world.World.check.Goals as goal

pub look-requires : goal.look-requires
look-requires c =
    let w = c.self.inside.parts in
    let s = c.world_inode.inside in
    let within : c.args.i < length w.world_inodes.items =
    subst (λ (n : ℕ). c.args.i < n) (c.len.ensures ∙ w.world_inodes.ok.0) c.if-i-len.false in
    inspect_rules w.settings w.world_inodes.items w.supers.items w.book w.sems w.rules w.tasks
    c.self.invariant.parts c.args.i s.cell s.rules s.place c.index_mut-world_inode.result.now
    c.world_inode.view_is within c.index_mut-world_inode.ensures.value

pub index-place-requires : goal.index-place-requires
index-place-requires c =
    let w = c.self.inside.parts in
    let s = c.world_inode.inside in
    let within : c.args.i < length w.world_inodes.items =
    subst (λ (n : ℕ). c.args.i < n) (c.len.ensures ∙ w.world_inodes.ok.0) c.if-i-len.false in
    let h : s.place < length w.supers.items =
    inspect_place w.settings w.world_inodes.items w.supers.items w.book w.sems w.rules w.tasks
    c.self.invariant.parts c.args.i s.cell s.rules s.place c.index_mut-world_inode.result.now
    c.world_inode.view_is within c.index_mut-world_inode.ensures.value in
    subst (λ (n : ℕ). s.place < n) (sym w.supers.ok.0) h

pub check_at-requires-clause-name : goal.check_at-requires-clause-name
check_at-requires-clause-name c =
    let w = c.self.inside.parts in
    let s = c.world_inode.inside in
    let within : c.args.i < length w.world_inodes.items =
    subst (λ (n : ℕ). c.args.i < n) (c.len.ensures ∙ w.world_inodes.ok.0) c.if-i-len.false in
    let p = c.passes.inside in
    (inspect_found w.settings w.world_inodes.items w.supers.items w.book w.sems w.rules w.tasks
    c.self.invariant.parts c.args.i s.cell s.rules s.place c.index_mut-world_inode.result.now
    c.world_inode.view_is within c.index_mut-world_inode.ensures.value
    c.args.self.now c.self.view_is p.inodes.items p.sems p.book p.rules c.args.passes.now
    c.passes.view_is c.args.actor.now.who.task c.requires.passes c.index_mut.result.now
    c.index_mut.ensures.value).0

pub check_at-requires-clause-number : goal.check_at-requires-clause-number
check_at-requires-clause-number c =
    let w = c.self.inside.parts in
    let s = c.world_inode.inside in
    let within : c.args.i < length w.world_inodes.items =
    subst (λ (n : ℕ). c.args.i < n) (c.len.ensures ∙ w.world_inodes.ok.0) c.if-i-len.false in
    let p = c.passes.inside in
    (inspect_found w.settings w.world_inodes.items w.supers.items w.book w.sems w.rules w.tasks
    c.self.invariant.parts c.args.i s.cell s.rules s.place c.index_mut-world_inode.result.now
    c.world_inode.view_is within c.index_mut-world_inode.ensures.value
    c.args.self.now c.self.view_is p.inodes.items p.sems p.book p.rules c.args.passes.now
    c.passes.view_is c.args.actor.now.who.task c.requires.passes c.index_mut.result.now
    c.index_mut.ensures.value).1

pub check_at-requires-clause-book_name : goal.check_at-requires-clause-book_name
check_at-requires-clause-book_name c =
    let w = c.self.inside.parts in
    let s = c.world_inode.inside in
    let within : c.args.i < length w.world_inodes.items =
    subst (λ (n : ℕ). c.args.i < n) (c.len.ensures ∙ w.world_inodes.ok.0) c.if-i-len.false in
    let p = c.passes.inside in
    inspect_book w.settings w.world_inodes.items w.supers.items w.book w.sems w.rules w.tasks
    c.self.invariant.parts c.args.i s.cell s.rules s.place c.index_mut-world_inode.result.now
    c.world_inode.view_is within c.index_mut-world_inode.ensures.value
    c.args.self.now c.self.view_is p.inodes.items p.sems p.book p.rules c.args.passes.now
    c.passes.view_is c.args.actor.now.who.task c.requires.passes c.index_mut.result.now
    c.index_mut.ensures.value

pub check_at-requires-clause-ready : goal.check_at-requires-clause-ready
check_at-requires-clause-ready c =
    let w = c.self.inside.parts in
    let s = c.world_inode.inside in
    let within : c.args.i < length w.world_inodes.items =
    subst (λ (n : ℕ). c.args.i < n) (c.len.ensures ∙ w.world_inodes.ok.0) c.if-i-len.false in
    let p = c.passes.inside in
    inspect_may w.settings w.world_inodes.items w.supers.items w.book w.sems w.rules w.tasks
    c.self.invariant.parts c.args.i s.cell s.rules s.place c.index_mut-world_inode.result.now
    c.world_inode.view_is within c.index_mut-world_inode.ensures.value
    c.args.self.now c.self.view_is p.inodes.items p.sems p.book p.rules c.args.passes.now
    c.passes.view_is c.args.actor.now.who.task c.requires.passes c.index_mut.result.now
    c.index_mut.ensures.value
    c.args.actor.now.action c.args.actor.now.slot
    (deed.Check c.args.asked.file c.args.asked.func no_action 0) c.requires.ready

pub invariant_of-self : goal.invariant_of-self
invariant_of-self c =
    let w = c.self.inside.parts in
    let s = c.world_inode.inside in
    let within : c.args.i < length w.world_inodes.items =
    subst (λ (n : ℕ). c.args.i < n) (c.len.ensures ∙ w.world_inodes.ok.0) c.if-i-len.false in
    let p = c.passes.inside in
    let first : RulesLooked w.rules c.look.new.self s.rules c.look.new.pass =
    record {
      base = c.look.ensures.base;
      look = record {
        same = c.look.ensures.list;
        before = c.look.ensures.before;
        seen = c.look.ensures.seen;
        mine = c.look.ensures.mine;
        own = c.look.ensures.own;
        pass = c.look.ensures.same_pass;
      };
    } in
    let second : RulesLooked c.look.new.self c.look-2.new.self p.rules c.look-2.new.pass =
    record {
      base = c.look-2.ensures.base;
      look = record {
        same = c.look-2.ensures.list;
        before = c.look-2.ensures.before;
        seen = c.look-2.ensures.seen;
        mine = c.look-2.ensures.mine;
        own = c.look-2.ensures.own;
        pass = c.look-2.ensures.same_pass;
      };
    } in
    record {
      parts = inspected_parts w.settings w.world_inodes.items w.supers.items w.book w.sems w.rules
          w.tasks
          c.self.invariant.parts c.args.i s.cell s.rules s.place c.index_mut-world_inode.result.now
          c.world_inode.view_is within c.index_mut-world_inode.ensures.value
          c.args.self.now c.self.view_is p.inodes.items p.sems p.book p.rules c.args.passes.now
          c.passes.view_is c.args.actor.now.who.task c.requires.passes c.index_mut.result.now
          c.index_mut.ensures.value
          c.look.new.self c.look-2.new.self c.look.new.pass c.look-2.new.pass first second
          c.check_at.new.world_inode c.check_at.new.book c.check_at.new.pass c.check_at.new.listed
          c.args.actor.now.who refl c.args.actor.now.cred.now c.args.asked c.index-place.result.now
          c.rules.result.now c.check_at.result c.rules.ensures c.index-place.ensures
          c.check_at.ensures.did c.check_at.ensures.told;
      spares = inspected_spares w.settings w.world_inodes.items w.supers.items w.book w.sems
          w.rules w.tasks
          c.self.invariant.parts c.args.i s.cell s.rules s.place c.index_mut-world_inode.result.now
          c.world_inode.view_is within c.index_mut-world_inode.ensures.value
          c.args.self.now c.self.view_is p.inodes.items p.sems p.book p.rules c.args.passes.now
          c.passes.view_is c.args.actor.now.who.task c.requires.passes c.index_mut.result.now
          c.index_mut.ensures.value
          c.look.new.self c.look-2.new.self c.look.new.pass c.look-2.new.pass first second
          c.check_at.new.world_inode c.check_at.new.book c.check_at.new.pass c.check_at.new.listed
          c.args.actor.now.who refl c.args.actor.now.cred.now c.args.asked c.index-place.result.now
          c.rules.result.now c.check_at.result c.rules.ensures c.index-place.ensures
          c.check_at.ensures.did c.check_at.ensures.told
          w.spares.items c.self.invariant.spares;
    }

pub returns-clause-consts : goal.returns-clause-consts
returns-clause-consts c =
    let w = c.self.inside.parts in
    let s = c.world_inode.inside in
    let within : c.args.i < length w.world_inodes.items =
    subst (λ (n : ℕ). c.args.i < n) (c.len.ensures ∙ w.world_inodes.ok.0) c.if-i-len.false in
    let p = c.passes.inside in
    let first : RulesLooked w.rules c.look.new.self s.rules c.look.new.pass =
    record {
      base = c.look.ensures.base;
      look = record {
        same = c.look.ensures.list;
        before = c.look.ensures.before;
        seen = c.look.ensures.seen;
        mine = c.look.ensures.mine;
        own = c.look.ensures.own;
        pass = c.look.ensures.same_pass;
      };
    } in
    let second : RulesLooked c.look.new.self c.look-2.new.self p.rules c.look-2.new.pass =
    record {
      base = c.look-2.ensures.base;
      look = record {
        same = c.look-2.ensures.list;
        before = c.look-2.ensures.before;
        seen = c.look-2.ensures.seen;
        mine = c.look-2.ensures.mine;
        own = c.look-2.ensures.own;
        pass = c.look-2.ensures.same_pass;
      };
    } in
    inspected_consts w.settings w.world_inodes.items w.supers.items w.book w.sems w.rules w.tasks
    c.self.invariant.parts c.args.i s.cell s.rules s.place c.index_mut-world_inode.result.now
    c.world_inode.view_is within c.index_mut-world_inode.ensures.value
    c.args.self.now c.self.view_is p.inodes.items p.sems p.book p.rules c.args.passes.now
    c.passes.view_is c.args.actor.now.who.task c.requires.passes c.index_mut.result.now
    c.index_mut.ensures.value
    c.look.new.self c.look-2.new.self c.look.new.pass c.look-2.new.pass first second
    c.check_at.new.world_inode c.check_at.new.book c.check_at.new.pass c.check_at.new.listed
    c.args.actor.now.who refl c.args.actor.now.cred.now c.args.asked c.index-place.result.now
    c.rules.result.now c.check_at.result c.rules.ensures c.index-place.ensures
    c.check_at.ensures.did c.check_at.ensures.told

pub returns-clause-check : goal.returns-clause-check
returns-clause-check c =
    let w = c.self.inside.parts in
    let s = c.world_inode.inside in
    let within : c.args.i < length w.world_inodes.items =
    subst (λ (n : ℕ). c.args.i < n) (c.len.ensures ∙ w.world_inodes.ok.0) c.if-i-len.false in
    let p = c.passes.inside in
    let first : RulesLooked w.rules c.look.new.self s.rules c.look.new.pass =
    record {
      base = c.look.ensures.base;
      look = record {
        same = c.look.ensures.list;
        before = c.look.ensures.before;
        seen = c.look.ensures.seen;
        mine = c.look.ensures.mine;
        own = c.look.ensures.own;
        pass = c.look.ensures.same_pass;
      };
    } in
    let second : RulesLooked c.look.new.self c.look-2.new.self p.rules c.look-2.new.pass =
    record {
      base = c.look-2.ensures.base;
      look = record {
        same = c.look-2.ensures.list;
        before = c.look-2.ensures.before;
        seen = c.look-2.ensures.seen;
        mine = c.look-2.ensures.mine;
        own = c.look-2.ensures.own;
        pass = c.look-2.ensures.same_pass;
      };
    } in
    inspected_check w.settings w.world_inodes.items w.supers.items w.book w.sems w.rules w.tasks
    c.self.invariant.parts c.args.i s.cell s.rules s.place c.index_mut-world_inode.result.now
    c.world_inode.view_is within c.index_mut-world_inode.ensures.value
    c.args.self.now c.self.view_is p.inodes.items p.sems p.book p.rules c.args.passes.now
    c.passes.view_is c.args.actor.now.who.task c.requires.passes c.index_mut.result.now
    c.index_mut.ensures.value
    c.look.new.self c.look-2.new.self c.look.new.pass c.look-2.new.pass first second
    c.check_at.new.world_inode c.check_at.new.book c.check_at.new.pass c.check_at.new.listed
    c.args.actor.now.who refl c.args.actor.now.cred.now c.args.asked c.index-place.result.now
    c.rules.result.now c.check_at.result c.rules.ensures c.index-place.ensures
    c.check_at.ensures.did c.check_at.ensures.told
