-- The laws of turns of the tasks of a world.
use Rattle.std.specs.Prelude.{◌≡◌, ℕ, ◌+◌, Bool, true, false, ◌||◌, List, [], ◌∷◌, ◌++◌, length, Some, slice_get, slice_set}
use Rattle.run_model.specs.Rounds.{RoundsTo, is_moved}
use Rattle.run_model.specs.declared.turn.Turn.{Turn}
use Rattle.world_model.specs.Runs.{AreTasks}
use Rattle.world_model.specs.Tasks.{Tasked}
use Rattle.world_model.specs.World.{WorldValue}
use Rattle.world_model.specs.WorldRuns.{HasRounded, HasTurned, IsInRound, IsRound, IsTurn, KeepsTask, SameRun, StepsTaskTo, moment_in, scene_in}

-- a step of one task is a turn of all; without a turn, as when memory runs out, they are still the
-- tasks of their world
abbrev pub StepIsTurn : Type 0
StepIsTurn = (world world2 : WorldValue) (tasks : List Tasked) (k : ℕ) (t t2 : Tasked)
    → AreTasks world.consts tasks → slice_get tasks k ≡ Some t → KeepsTask world world2 t t2
    → SameRun world world2 tasks (slice_set tasks k t2)
    × ((r : Turn) → StepsTaskTo world world2 t t2 r
    → IsTurn world world2 tasks (slice_set tasks k t2) k r)

-- the turns of a list and one turn more are the turns of the list with that task appended
abbrev pub TurnIsMore : Type 0
TurnIsMore = (world w1 w2 : WorldValue) (tasks t1 t2 : List Tasked) (turns : List ℕ) (k : ℕ)
    (r : Turn) → HasTurned world w1 tasks t1 turns → SameRun w1 w2 t1 t2
    → IsTurn w1 w2 t1 t2 k r → HasTurned world w2 tasks t2 (turns ++ k ∷ [])

-- the turn of the next task of a round
abbrev pub TurnInRound : Type 0
TurnInRound = (world w1 w2 : WorldValue) (tasks t1 t2 : List Tasked) (k : ℕ) (moved : Bool)
    (r : Turn) → IsInRound world w1 tasks t1 k moved → SameRun w1 w2 t1 t2
    → IsTurn w1 w2 t1 t2 k r → IsInRound world w2 tasks t2 (k + 1) (moved || is_moved r)

-- a round is complete once each task has had its turn
abbrev pub RoundIsWhole : Type 0
RoundIsWhole = (world world2 : WorldValue) (tasks tasks2 : List Tasked) (moved : Bool)
    → IsInRound world world2 tasks tasks2 (length tasks) moved
    → IsRound world world2 tasks tasks2 moved

-- n rounds, and one that moves a task, are n + 1 rounds
abbrev pub RoundIsMore : Type 0
RoundIsMore = (world w1 w2 : WorldValue) (tasks t1 t2 : List Tasked) (n : ℕ)
    → HasRounded world w1 tasks t1 n → SameRun w1 w2 t1 t2 → IsRound w1 w2 t1 t2 true
    → HasRounded world w2 tasks t2 (n + 1)

-- rounds end with the first that moves no task, and that end is unique
abbrev pub RoundsAreOver : Type 0
RoundsAreOver = (world w1 w2 : WorldValue) (tasks t1 t2 : List Tasked) (n : ℕ)
    → HasRounded world w1 tasks t1 n → SameRun w1 w2 t1 t2 → IsRound w1 w2 t1 t2 false
    → RoundsTo (scene_in world tasks) (moment_in world tasks) (moment_in w2 t2)
