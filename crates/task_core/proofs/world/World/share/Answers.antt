-- The lists of a world belong to its constants.
use Rattle.std.proofs.Common.{◌∙◌, ap, subst}
use Rattle.task_core.proofs.Closing.{are_rules, are_signals, are_world_inodes, is_book}
use Rattle.world_model.specs.WorldConsts.{WorldConsts}
use Rattle.world_model.specs.World.{WorldValue}
use Rattle.world_close.specs.Closed.{AreSpares}
use Rattle.task_core.proofs.world.World.share.Goals as goal

pub new-requires-after_bounds : goal.new-requires-after_bounds
new-requires-after_bounds g c =
    λ κs out.
    let w = c.self.inside.parts in
    let consts = g.N.Name.consts in
    let is = ap (λ (v : WorldValue). v.consts) c.self.view_is ∙ c.requires in
    let parts = c.self.invariant.parts in
    record {
      world_inodes = are_world_inodes w.settings w.world_inodes.items w.supers.items w.book
          w.sems w.rules w.tasks consts is parts;
      book = is_book w.settings w.world_inodes.items w.supers.items w.book w.sems w.rules w.tasks
          consts is parts;
      sems = are_signals w.settings w.world_inodes.items w.supers.items w.book w.sems
          w.rules w.tasks consts is parts;
      rules = are_rules w.settings w.world_inodes.items w.supers.items w.book w.sems w.rules w.tasks
          consts is parts;
      spares = subst (λ (f : WorldConsts). AreSpares f w.spares.items) is c.self.invariant.spares;
      supers = ap (λ (f : WorldConsts). f.supers) is;
      settings = ap (λ (f : WorldConsts). f.settings) is;
      tasks = ap (λ (f : WorldConsts). f.tasks) is;
    }
