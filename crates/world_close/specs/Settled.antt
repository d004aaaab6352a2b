-- Tasks that look at all lists of their world, one after another, and how their run ends.
use Rattle.std.specs.Prelude.{◌≡◌, ℕ, ◌<◌, ◌||◌, All, Bool, List, map, Some, slice_get}
use Rattle.ima_templates.specs.IsEntry.{IsEntry}
use Rattle.run_model.specs.Ended.{all_done, is_stuck}
use Rattle.run_model.specs.EndedValue.{EndedValue, ended_of}
use Rattle.run_model.specs.Scene.{Scene}
use Rattle.run_model.specs.Turns.{Moment, State, run_at}
use Rattle.world_close.specs.worlds.WorldConsts.{WorldConsts}
use Rattle.world_close.specs.worlds.Runs.{AreTasks, HasMade}
use Rattle.world_close.specs.worlds.Tasks.{Tasked}
use Rattle.world_close.specs.task_states.Value.{TaskValue}
use Rattle.world_close.specs.Finished.{IsFinished}

abbrev pub task_state_of : Tasked → TaskValue
task_state_of t = t.task_state

-- no task's state has changed
abbrev pub HaveSameTaskStates : List Tasked → List Tasked → Type 0
HaveSameTaskStates old new = map task_state_of new ≡ map task_state_of old

-- the tasks below k have looked at all lists
pub record HaveLooked (consts : WorldConsts) (state : State) (k : ℕ) (old new : List Tasked)
    : Type 0 where
  pub made : (j : ℕ) (t : Tasked) → j < k → slice_get new j ≡ Some t → HasMade consts state t
  pub tasks : AreTasks consts new
  pub same : HaveSameTaskStates old new

-- each task is done, or the run is stuck
abbrev pub is_over : Scene → Moment → Bool
is_over scene m = all_done scene.programs m.positions || is_stuck scene.programs m.positions

-- the final state of the run at this moment
pub record HasEnded (scene : Scene) (m : Moment) (e : EndedValue) : Type 0 where
  pub ended : e ≡ ended_of scene (run_at m)
  pub entries : All IsEntry e.list
  pub finished : IsFinished scene m
