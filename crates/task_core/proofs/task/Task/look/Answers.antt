-- A look at all lists of the world preserves the task and the world.
use Rattle.std.proofs.Common.{◌∙◌, ap}
use Rattle.task_core.proofs.Looks.{consts_looked, look_names, look_opens, looked_made, looked_still, parts_looked, spares_looked, state_looked}
use Rattle.task_core.specs.WorldFields.{consts_in, world_of}
use Rattle.world_model.specs.Tasks.{IsTask, PassesValue, Tasked}
use Rattle.world_model.specs.World.{WorldValue}
use Rattle.task_core.proofs.task.Task.look.Goals as goal

pub look_at_inodes-requires-clause-names : goal.look_at_inodes-requires-clause-names
look_at_inodes-requires-clause-names c =
    let w = c.world.inside.parts in
    let s = c.self.inside in
    let p = c.passes.inside in
    let before : PassesValue =
    record { inodes = p.inodes.items; sems = p.sems; book = p.book; rules = p.rules } in
    let t : Tasked =
    record {
      number = s.number;
      task_state = s.task_state;
      hash_state = s.hash_state;
      passes = before;
    } in
    let is : IsTask (consts_in c.world.inside) t =
    look_opens (world_of c.world.inside) c.args.world.now c.args.self.now s.number s.task_state
    s.hash_state before s.passes c.world.view_is c.self.view_is c.passes.view_is c.requires in
    look_names w.settings w.world_inodes.items w.supers.items w.book w.sems w.rules w.tasks s.number
    before is.played.passes

pub invariant_of-world : goal.invariant_of-world
invariant_of-world c =
    let w = c.world.inside.parts in
    record {
      parts = parts_looked w.settings w.world_inodes.items c.look_at_inodes.new.world_inodes.items
          w.supers.items w.book
          c.look-2.new.self w.sems c.look.new.self w.rules c.look-3.new.self w.tasks
          c.look_at_inodes.ensures.world_inodes c.look-2.ensures.list c.look.ensures.list
          c.look-3.ensures.base c.look-3.ensures.list c.world.invariant.parts;
      spares = spares_looked w.settings w.world_inodes.items c.look_at_inodes.new.world_inodes.items
          w.supers.items w.book
          c.look-2.new.self w.sems c.look.new.self w.rules c.look-3.new.self w.tasks
          c.look_at_inodes.ensures.world_inodes c.look-2.ensures.list c.look.ensures.list
          c.look-3.ensures.base c.look-3.ensures.list w.spares.items
          c.world.invariant.spares;
    }

pub returns-clause-made : goal.returns-clause-made
returns-clause-made c =
    let w = c.world.inside.parts in
    let s = c.self.inside in
    let p = c.passes.inside in
    let before : PassesValue =
    record { inodes = p.inodes.items; sems = p.sems; book = p.book; rules = p.rules } in
    let t : Tasked =
    record {
      number = s.number;
      task_state = s.task_state;
      hash_state = s.hash_state;
      passes = before;
    } in
    let is : IsTask (consts_in c.world.inside) t =
    look_opens (world_of c.world.inside) c.args.world.now c.args.self.now s.number s.task_state
    s.hash_state before s.passes c.world.view_is c.self.view_is c.passes.view_is c.requires in
    let after : PassesValue =
    record {
      inodes = c.look_at_inodes.new.passes.items;
      sems = c.look.new.pass;
      book = c.look-2.new.pass;
      rules = c.look-3.new.pass;
    } in
    looked_made w.settings w.world_inodes.items c.look_at_inodes.new.world_inodes.items
    w.supers.items w.book
    c.look-2.new.self w.sems c.look.new.self w.rules c.look-3.new.self w.tasks
    c.look_at_inodes.ensures.world_inodes c.look-2.ensures.list c.look.ensures.list
    c.look-3.ensures.base c.look-3.ensures.list
    t after c.world.invariant.parts is c.look_at_inodes.ensures.passes
    (record {
      same = c.look.ensures.list;
      before = c.look.ensures.before;
      seen = c.look.ensures.seen;
      mine = c.look.ensures.mine;
      own = c.look.ensures.own;
      pass = c.look.ensures.same_pass;
    }) c.look.ensures.numbers
    (record {
      same = c.look-2.ensures.list;
      before = c.look-2.ensures.before;
      seen = c.look-2.ensures.seen;
      mine = c.look-2.ensures.mine;
      own = c.look-2.ensures.own;
      pass = c.look-2.ensures.same_pass;
    })
    (record {
      same = c.look-3.ensures.list;
      before = c.look-3.ensures.before;
      seen = c.look-3.ensures.seen;
      mine = c.look-3.ensures.mine;
      own = c.look-3.ensures.own;
      pass = c.look-3.ensures.same_pass;
    })

pub returns-clause-still : goal.returns-clause-still
returns-clause-still c =
    let w = c.world.inside.parts in
    let s = c.self.inside in
    let p = c.passes.inside in
    let before : PassesValue =
    record { inodes = p.inodes.items; sems = p.sems; book = p.book; rules = p.rules } in
    let t : Tasked =
    record {
      number = s.number;
      task_state = s.task_state;
      hash_state = s.hash_state;
      passes = before;
    } in
    let is : IsTask (consts_in c.world.inside) t =
    look_opens (world_of c.world.inside) c.args.world.now c.args.self.now s.number s.task_state
    s.hash_state before s.passes c.world.view_is c.self.view_is c.passes.view_is c.requires in
    let after : PassesValue =
    record {
      inodes = c.look_at_inodes.new.passes.items;
      sems = c.look.new.pass;
      book = c.look-2.new.pass;
      rules = c.look-3.new.pass;
    } in
    looked_still w.settings w.world_inodes.items c.look_at_inodes.new.world_inodes.items
    w.supers.items w.book
    c.look-2.new.self w.sems c.look.new.self w.rules c.look-3.new.self w.tasks
    c.look_at_inodes.ensures.world_inodes c.look-2.ensures.list c.look.ensures.list
    c.look-3.ensures.base c.look-3.ensures.list
    t after c.world.invariant.parts is c.look_at_inodes.ensures.passes
    (record {
      same = c.look.ensures.list;
      before = c.look.ensures.before;
      seen = c.look.ensures.seen;
      mine = c.look.ensures.mine;
      own = c.look.ensures.own;
      pass = c.look.ensures.same_pass;
    }) c.look.ensures.numbers
    (record {
      same = c.look-2.ensures.list;
      before = c.look-2.ensures.before;
      seen = c.look-2.ensures.seen;
      mine = c.look-2.ensures.mine;
      own = c.look-2.ensures.own;
      pass = c.look-2.ensures.same_pass;
    })
    (record {
      same = c.look-3.ensures.list;
      before = c.look-3.ensures.before;
      seen = c.look-3.ensures.seen;
      mine = c.look-3.ensures.mine;
      own = c.look-3.ensures.own;
      pass = c.look-3.ensures.same_pass;
    })

pub returns-clause-consts : goal.returns-clause-consts
returns-clause-consts c =
    let w = c.world.inside.parts in
    consts_looked w.settings w.world_inodes.items c.look_at_inodes.new.world_inodes.items
    w.supers.items w.book
    c.look-2.new.self w.sems c.look.new.self w.rules c.look-3.new.self w.tasks
    c.look_at_inodes.ensures.world_inodes c.look-2.ensures.list c.look.ensures.list
    c.look-3.ensures.base c.look-3.ensures.list
    ∙ ap (λ (x : WorldValue). x.consts) c.world.view_is

pub returns-clause-state : goal.returns-clause-state
returns-clause-state c =
    let w = c.world.inside.parts in
    state_looked w.settings w.world_inodes.items c.look_at_inodes.new.world_inodes.items
    w.supers.items w.book
    c.look-2.new.self w.sems c.look.new.self w.rules c.look-3.new.self w.tasks
    c.look_at_inodes.ensures.world_inodes c.look-2.ensures.list c.look.ensures.list
    c.look-3.ensures.base c.look-3.ensures.list
    ∙ ap (λ (x : WorldValue). x.state) c.world.view_is
