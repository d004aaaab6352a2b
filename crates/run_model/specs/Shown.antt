-- Which runs may be shown for a script, whatever its ending and however its threads interleave.
use Rattle.std.specs.Prelude.{All, List, [], ◌∷◌}
use Rattle.call_steps.specs.events.Legal.{Legal}
use Rattle.call_steps.specs.events.Merged.{IsMerged, Journal}
use Rattle.call_steps.specs.events.NewestFirst.{newest_first}
use Rattle.call_steps.specs.events.declared.told.Event.{Event}
use Rattle.run_model.specs.Ended.{IsEnded}
use Rattle.run_model.specs.Served.{Run, Served}
use Rattle.run_model.specs.Scene.{Scene, ScriptFile, inode_of}
use Rattle.call_steps.specs.declared.ending.Ending.{Ending}

-- the inodes with their journals
abbrev pub journals_of : Scene → List ScriptFile → List (List Event) → List Journal
journals_of scene [] journals = []
journals_of scene (s ∷ ss) [] = []
journals_of scene (s ∷ ss) (j ∷ js) =
    record { inode = inode_of scene s; events = newest_first j } ∷ journals_of scene ss js

pub record IsShown (scene : Scene) (ending : Ending) (run : Run) : Type 0 where
  pub legal : All (λ (j : Journal). Legal j.inode j.events)
      (journals_of scene scene.script_files run.journals)
  pub merged : IsMerged scene.boot run.list (journals_of scene scene.script_files run.journals)
  pub served : Served scene run
  pub ended : IsEnded ending scene.programs run.positions
