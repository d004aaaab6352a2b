-- The effect of turns on the tasks of a world.
use Rattle.std.specs.Prelude.{◌≡◌, ℕ, ◌<◌, Bool, true, List}
use Rattle.run_model.specs.Rounds.{all_tasks, any_moves, is_moved, moves, numbers, round_moves, rounds}
use Rattle.run_model.specs.Scene.{Program, Scene}
use Rattle.run_model.specs.Turns.{Moment, step_task, turn, turns_of}
use Rattle.run_model.specs.declared.turn.Turn.{Turn}
use Rattle.world_model.specs.WorldConsts.{scene_of}
use Rattle.world_model.specs.Runs.{AreTasks, moment_of, programs_of}
use Rattle.world_model.specs.Tasks.{IsTask, Tasked}
use Rattle.world_model.specs.World.{WorldValue}

-- the scene of these tasks in a world
abbrev pub scene_in : WorldValue → List Tasked → Scene
scene_in world tasks = scene_of world.consts (programs_of tasks)

-- the moment of these tasks in a world
abbrev pub moment_in : WorldValue → List Tasked → Moment
moment_in world tasks = moment_of world.state tasks

-- ---- a step of one task

-- the task is still one of the same world, with the same number and program
pub record KeepsTask (world world2 : WorldValue) (t t2 : Tasked) : Type 0 where
  pub consts : world2.consts ≡ world.consts
  pub number : t2.number ≡ t.number
  pub program : t2.task_state.program ≡ t.task_state.program
  pub task : IsTask world2.consts t2

-- the task made its turn, whatever the programs of the others are
abbrev pub StepsTaskTo : WorldValue → WorldValue → Tasked → Tasked → Turn → Type 0
StepsTaskTo world world2 t t2 r = (programs : List Program)
    → step_task (scene_of world.consts programs) t.number t.task_state.program world.state
    t.task_state.position
    ≡ record { state = world2.state; position = t2.task_state.position; turn = r }

-- ---- turns of many

-- the tasks still belong to the same world and have the same programs
pub record SameRun (world world2 : WorldValue) (tasks tasks2 : List Tasked) : Type 0 where
  pub consts : world2.consts ≡ world.consts
  pub programs : programs_of tasks2 ≡ programs_of tasks
  pub each : AreTasks world2.consts tasks2

-- the tasks after a turn of task k
pub record IsTurn (world world2 : WorldValue) (tasks tasks2 : List Tasked) (k : ℕ) (r : Turn)
    : Type 0 where
  pub moment : moment_in world2 tasks2 ≡ turn (scene_in world tasks) (moment_in world tasks) k
  pub moves : is_moved r ≡ moves (scene_in world tasks) (moment_in world tasks) k

-- the tasks after these turns, in order
pub record HasTurned (world world2 : WorldValue) (tasks tasks2 : List Tasked) (turns : List ℕ)
    : Type 0 where
  pub still : SameRun world world2 tasks tasks2
  pub run : moment_in world2 tasks2
      ≡ turns_of (scene_in world tasks) (moment_in world tasks) turns

-- ---- rounds

-- the tasks below k have had their turns of a round; `moved` says whether one of them has moved
pub record IsInRound (world world2 : WorldValue) (tasks tasks2 : List Tasked) (k : ℕ)
    (moved : Bool) : Type 0 where
  pub turned : HasTurned world world2 tasks tasks2 (numbers k)
  pub moves : moved ≡ any_moves (scene_in world tasks) (moment_in world tasks) (numbers k)

-- the tasks after a round; `moved` says whether one of them has moved
pub record IsRound (world world2 : WorldValue) (tasks tasks2 : List Tasked) (moved : Bool)
    : Type 0 where
  pub moment : moment_in world2 tasks2
      ≡ turns_of (scene_in world tasks) (moment_in world tasks) (all_tasks (scene_in world tasks))
  pub moves : moved ≡ round_moves (scene_in world tasks) (moment_in world tasks)

-- the tasks after n rounds, each of which moved a task
pub record HasRounded (world world2 : WorldValue) (tasks tasks2 : List Tasked) (n : ℕ)
    : Type 0 where
  pub still : SameRun world world2 tasks tasks2
  pub run : moment_in world2 tasks2 ≡ rounds (scene_in world tasks) n (moment_in world tasks)
  pub before : (k : ℕ) → k < n
      → round_moves (scene_in world tasks) (rounds (scene_in world tasks) k
      (moment_in world tasks)) ≡ true
