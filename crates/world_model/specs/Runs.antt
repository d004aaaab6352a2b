-- The tasks of a world together, and the invariant of each with the world's lists.
use Rattle.std.specs.Prelude.{◌≡◌, ℕ, List, map, Some, slice_get}
use Rattle.run_laws.specs.events.declared.told.Event.{Event}
use Rattle.run_laws.specs.Logs.{log}
use Rattle.run_laws.specs.Steps.{RisesWithin}
use Rattle.run_laws.specs.Checks.{ChecksFit}
use Rattle.run_laws.specs.Moments.{seen_in}
use Rattle.run_laws.specs.model.History.{Answer, Position, own, own_rules, own_signals, position}
use Rattle.run_laws.specs.model.Scene.{Program}
use Rattle.run_laws.specs.model.Served.{events_of, rules_of}
use Rattle.run_laws.specs.model.Turns.{Moment, State}
use Rattle.world_model.specs.WorldConsts.{WorldConsts, mode_in, scene_of}
use Rattle.world_model.specs.Tasks.{IsTask, Tasked}

-- ---- all tasks

pub record IsNth (consts : WorldConsts) (k : ℕ) (t : Tasked) : Type 0 where
  pub number : t.number ≡ k
  pub task : IsTask consts t

-- the tasks are numbered from 0 on, in order
pub record AreTasks (consts : WorldConsts) (tasks : List Tasked) : Type 0 where
  pub each : (k : ℕ) (t : Tasked) → slice_get tasks k ≡ Some t → IsNth consts k t

abbrev pub program_of : Tasked → Program
program_of t = t.task_state.program

abbrev pub position_of : Tasked → Position
position_of t = t.task_state.position

abbrev pub programs_of : List Tasked → List Program
programs_of tasks = map program_of tasks

-- the moment of a run at which the lists and the tasks are these
abbrev pub moment_of : State → List Tasked → Moment
moment_of state tasks = record { state = state; positions = map position_of tasks }

-- ---- a task that has looked at all lists

-- some history of the task's steps accounts for the task's position, and for exactly the entries of
-- its number in each list
pub record HasMade (consts : WorldConsts) (s : State) (t : Tasked) : Type 0 where
  pub history : List Answer
  pub stands : position (mode_in consts) t.task_state.program history ≡ t.task_state.position
  pub events : (i : ℕ) (journal : List Event) → slice_get s.journals i ≡ Some journal
      → events_of t.number journal ≡ own (mode_in consts) t.number t.task_state.program i history
  pub signals : events_of t.number s.signals
      ≡ own_signals (mode_in consts) t.number t.task_state.program history
  pub rules : rules_of t.number s.added
      ≡ own_rules (mode_in consts) t.number t.task_state.program history
  pub checks : (programs : List Program) → ChecksFit (scene_of consts programs) t.task_state.program
      (seen_in s) history
  pub rises : RisesWithin (log (mode_in consts) t.number t.task_state.program history) s.list
