-- The places of the journals of a run.
use Rattle.std.specs.Prelude.{◌≡◌, ℕ, All, List, ◌++◌, Some, slice_get}
use Rattle.ima_templates.specs.IsEntry.{IsEntry}
use Rattle.ima_templates.specs.Path.{IsMeasuredPath}
use Rattle.inode_meta.specs.declared.measurement.Template.TheVariants.{Ima}
use Rattle.inode_events.specs.Inode.{Inode}
use Rattle.inode_events.specs.Legal.{IsBorn}
use Rattle.inode_events.specs.NewestFirst.{newest_first}
use Rattle.inode_events.specs.declared.told.Event.{Event}
use Rattle.run_model.specs.Scene.{Scene, ScriptFile, inode_of}
use Rattle.run_model.specs.Served.{Run}

-- at some place of the inode's journal these are the events before it, newest first
pub record Stood (scene : Scene) (run : Run) (inode : Inode) (p : List Event) : Type 0 where
  pub number : ℕ
  pub script_file : ScriptFile
  pub journal : List Event
  pub at : slice_get scene.script_files number ≡ Some script_file
  pub journal_at : slice_get run.journals number ≡ Some journal
  pub inode_is : inode_of scene script_file ≡ inode
  pub later : List Event
  pub is : newest_first journal ≡ later ++ p
  pub born : IsBorn p

-- the forms of a scene that each script has: its paths can be shown by each template, and the boot
-- aggregate is an entry
pub record HasForms (scene : Scene) : Type 0 where
  pub paths : All (λ (s : ScriptFile). IsMeasuredPath Ima s.path) scene.script_files
  pub boot : IsEntry scene.boot
