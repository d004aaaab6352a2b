-- How threads run the tasks of a world that they share: in parts, by passes over each part.
use Rattle.std.specs.Prelude.{◌≡◌, ℕ, zero, suc, ◌*◌, ◌-◌, ◌<◌, ◌≤◌, All, Bool, true, false, List, length, Option, Some, None, slice_get, slice_set}
use Rattle.std.specs.List.{flat_map, list_any}
use Rattle.run_model.specs.Rounds.{RoundsTo, is_moved}
use Rattle.run_model.specs.declared.turn.Turn.{Turn}
use Rattle.task_core.specs.Shared.{StepsTo}
use Rattle.task_core.specs.ends.Settled.{HaveSameTaskStates}
use Rattle.task_core.specs.worlds.WorldConsts.{WorldConsts}
use Rattle.task_core.specs.worlds.Tasks.{Tasked}
use Rattle.task_core.specs.worlds.World.{WorldValue}
use Rattle.task_core.specs.worlds.WorldRuns.{moment_in, scene_in}
use Rattle.world_locks.specs.Met.{mines_of}

-- ---- one step

-- the task made no turn: it is where it was, and no list has an entry more of it
pub record HasStayed (t t2 : Tasked) : Type 0 where
  pub number : t2.number ≡ t.number
  pub program : t2.task_state.program ≡ t.task_state.program
  pub position : t2.task_state.position ≡ t.task_state.position
  pub mines : mines_of t2.passes ≡ mines_of t.passes

-- the task made a turn with this answer, or none
abbrev pub SteppedBy : WorldConsts → Tasked → Tasked → Option Turn → Type 0
SteppedBy consts t t2 (Some r) = StepsTo consts t t2 r
SteppedBy consts t t2 None = HasStayed t t2

-- task k made a turn with this answer, or none, and the others are as they were
pub record StepsAt (consts : WorldConsts) (old new : List Tasked) (k : ℕ) (r : Option Turn)
    : Type 0 where
  pub before : Tasked
  pub after : Tasked
  pub at : slice_get old k ≡ Some before
  pub written : new ≡ slice_set old k after
  pub step : SteppedBy consts before after r

-- ---- one pass

-- the first tasks made a turn each, with these answers, and the others none
pub record HaveStepped (consts : WorldConsts) (old new : List Tasked) (turns : List Turn)
    : Type 0 where
  pub even : length new ≡ length old
  pub each : (k : ℕ) (t t2 : Tasked) → slice_get old k ≡ Some t → slice_get new k ≡ Some t2
      → SteppedBy consts t t2 (slice_get turns k)

-- the first k tasks made a turn each, and the others none; `moved` says whether one of them moved
pub record IsPass (consts : WorldConsts) (old new : List Tasked) (k : ℕ) (moved : Bool)
    : Type 0 where
  pub turns : List Turn
  pub count : length turns ≡ k
  pub made : HaveStepped consts old new turns
  pub moves : moved ≡ list_any is_moved turns

-- some first tasks made a turn each, and at least one task made none
pub record IsInPass (consts : WorldConsts) (old new : List Tasked) : Type 0 where
  pub count : ℕ
  pub moved : Bool
  pub left : count < length old
  pub pass : IsPass consts old new count moved

-- ---- a part

-- n passes over all tasks, each of which moved one
abbrev pub HavePassed : WorldConsts → ℕ → List Tasked → List Tasked → Type 0
HavePassed consts zero old new = new ≡ old
HavePassed consts (suc n) old new = (mid : List Tasked)
    × (HavePassed consts n old mid × IsPass consts mid new (length mid) true)

-- a part that is over: passes that each moved a task, and a last one that moved none
pub record IsPartOver (consts : WorldConsts) (old new : List Tasked) : Type 0 where
  pub count : ℕ
  pub mid : List Tasked
  pub before : HavePassed consts count old mid
  pub last : IsPass consts mid new (length mid) false

-- a part that ran out of memory: passes that each moved a task, and some first turns of the next
pub record IsPartStopped (consts : WorldConsts) (old new : List Tasked) : Type 0 where
  pub count : ℕ
  pub mid : List Tasked
  pub before : HavePassed consts count old mid
  pub next : IsInPass consts mid new

-- a part of at most this size is over: its tasks before and afterwards
abbrev pub IsPartIn : WorldConsts → ℕ → List Tasked × List Tasked → Type 0
IsPartIn consts size p = (length p.0 ≤ size) × IsPartOver consts p.0 p.1

-- the tasks were cut into at most so many parts of at most this size, and each part is over
pub record AreOver (consts : WorldConsts) (count size : ℕ) (old new : List Tasked) : Type 0 where
  pub parts : List (List Tasked × List Tasked)
  pub few : length parts ≤ count
  pub before : flat_map (λ p. p.0) parts ≡ old
  pub after : flat_map (λ p. p.1) parts ≡ new
  pub each : All (IsPartIn consts size) parts

-- the tasks were cut into at most n parts, none longer than n parts need, and each part is over
pub record HaveRunInParts (consts : WorldConsts) (n : ℕ) (old new : List Tasked) : Type 0 where
  pub size : ℕ
  pub short : 1 < size → n * (size - 1) < length old
  pub over : AreOver consts n size old new

-- ---- the run

-- The tasks have run in at most n parts. Then each has looked at all lists of the world that was
-- taken back, and rounds of all tasks have ended the run.
pub record HasRunOnThreads (world after : WorldValue) (n : ℕ) (old new : List Tasked)
    : Type 0 where
  pub mid : List Tasked
  pub parts : HaveRunInParts world.consts n old mid
  pub back : WorldValue
  pub looked : List Tasked
  pub task_states : HaveSameTaskStates mid looked
  pub rounds : RoundsTo (scene_in world old) (moment_in back looked) (moment_in after new)
