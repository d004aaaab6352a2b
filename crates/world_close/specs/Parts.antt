-- The lists of a world together, each of which belongs to the world's constants.
use Rattle.std.specs.Prelude.{◌≡◌}
use Rattle.world_model.specs.Parts.{consts_by, state_by}
use Rattle.world_model.specs.World.{AreRulesOf, AreSignalsOf, IsBookOf}
use Rattle.world_model.specs.WorldConsts.{WorldConsts}
use Rattle.world_close.specs.Closed.{AreSpares, AreWorldInodes}
use Rattle.run_model.specs.Turns.{State}
use Rattle.world_close.specs.declared.parts.Parts.{Parts}

abbrev pub consts_of_parts : Parts → WorldConsts
consts_of_parts p =
    consts_by p.settings p.world_inodes.items p.supers.items p.book p.sems p.rules p.tasks

abbrev pub state_of_parts : Parts → State
state_of_parts p = state_by p.world_inodes.items p.book p.sems p.rules

pub record KeepConsts (consts : WorldConsts) (p : Parts) : Type 0 where
  pub world_inodes : AreWorldInodes consts p.world_inodes.items
  pub book : IsBookOf consts p.book
  pub sems : AreSignalsOf consts p.sems
  pub rules : AreRulesOf consts p.rules
  pub spares : AreSpares consts p.spares.items
  pub supers : p.supers.items ≡ consts.supers
  pub settings : p.settings ≡ consts.settings
  pub tasks : p.tasks ≡ consts.tasks
