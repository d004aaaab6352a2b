-- The part of an inode that never changes during a run.
use Rattle.std.specs.Prelude.{ℕ, List}
use Rattle.inode_meta.specs.declared.step.Who.{Who}
use Rattle.inode_events.specs.declared.image.Image.{Image}
use Rattle.inode_events.specs.declared.settings.Settings.{Settings}

-- its path, the settings of the script, and the image with which it is created
pub record Inode : Type 0 where
  pub path : List ℕ
  pub settings : Settings
  pub birth : Image

-- the maker of a birth, which isn't a step of any task
abbrev pub nobody : Who
nobody = record { task = 0; call = 0; step = 0 }
