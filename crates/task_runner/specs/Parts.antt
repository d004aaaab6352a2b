-- How threads change the tasks that they run.
use Rattle.std.specs.Prelude.{◌≡◌, ℕ, List, length, Some, slice_get}
use Rattle.task_core.specs.worlds.WorldConsts.{WorldConsts}
use Rattle.task_core.specs.worlds.Runs.{AreTasks, programs_of}
use Rattle.task_core.specs.worlds.Tasks.{IsTask, Tasked}

-- the task was one of the world, and still is, with the same number and program
pub record GoneFrom (consts : WorldConsts) (old : List Tasked) (k : ℕ) (t : Tasked) : Type 0 where
  pub before : Tasked
  pub at : slice_get old k ≡ Some before
  pub number : t.number ≡ before.number
  pub program : t.task_state.program ≡ before.task_state.program
  pub task : IsTask consts t

pub record HaveGone (consts : WorldConsts) (old new : List Tasked) : Type 0 where
  pub even : length new ≡ length old
  pub each : (k : ℕ) (t : Tasked) → slice_get new k ≡ Some t → GoneFrom consts old k t

-- the tasks still belong to the world, with the same programs
pub record AreSameTasks (consts : WorldConsts) (old new : List Tasked) : Type 0 where
  pub programs : programs_of new ≡ programs_of old
  pub each : AreTasks consts new
