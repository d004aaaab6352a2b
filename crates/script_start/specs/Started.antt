-- The world and the tasks of a script before their first turn.
use Rattle.std.specs.Prelude.{◌≡◌, List, length}
use Rattle.call_steps.specs.declared.ending.Ending.{Ending}
use Rattle.run_model.specs.Turns.{start_of}
use Rattle.script_scene.specs.Scene.{IsForFiles, scene_of}
use Rattle.script_text.specs.ScriptValue.{ScriptValue}
use Rattle.task_core.specs.worlds.Runs.{AreTasks}
use Rattle.task_core.specs.worlds.Tasks.{Tasked}
use Rattle.task_core.specs.worlds.World.{WorldValue}
use Rattle.task_core.specs.worlds.WorldRuns.{moment_in, scene_in}

-- the world and the tasks of the script before their first turn
pub record HasStarted (s : ScriptValue) (world : WorldValue) (tasks : List Tasked)
    (way : Ending) : Type 0 where
  pub scene : (for_files : IsForFiles s) → scene_in world tasks ≡ scene_of s for_files
  pub start : moment_in world tasks ≡ start_of (scene_in world tasks)
  pub each : AreTasks world.consts tasks
  pub count : length tasks ≡ world.consts.tasks
  pub all : length tasks ≡ length s.tasks
  pub ending : way ≡ s.ending
