-- The value of a world that contracts see, and the invariant of its fields.
use Rattle.task_core.specs.declared.world.World.TheInside.{Inside}
use Rattle.world_model.specs.World.{WorldValue}
use Rattle.world_model.specs.WorldConsts.{WorldConsts}
use Rattle.world_model.specs.Parts.{AreParts}
use Rattle.world_close.specs.Closed.{AreSpares}
use Rattle.world_close.specs.Parts.{consts_of_parts, state_of_parts}

abbrev pub consts_in : Inside → WorldConsts
consts_in w = consts_of_parts w.parts

abbrev pub world_of : Inside → WorldValue
world_of w = record { consts = consts_in w; state = state_of_parts w.parts }

pub record IsWorld (w : Inside) : Type 0 where
  pub parts : AreParts (consts_in w) w.parts.world_inodes.items w.parts.book w.parts.sems
      w.parts.rules
  pub spares : AreSpares (consts_in w) w.parts.spares.items
