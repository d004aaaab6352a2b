-- The run that a world's closed lists make, provided that each task has looked at all lists before.
use Rattle.std.specs.Prelude.{◌≡◌, ℕ, ◌<◌, ◌||◌, true, false, All, List, length, map, Some, slice_get}
use Rattle.ima_templates.specs.declared.entry.Entry.{Entry}
use Rattle.inode_events.specs.Legal.{Legal}
use Rattle.inode_events.specs.Merged.{IsMerged, Journal}
use Rattle.inode_events.specs.declared.told.Event.{Event}
use Rattle.world_model.specs.steps.declared.ending.Ending.{Ending}
use Rattle.world_model.specs.laws_of_progress.Resting.{IsReached}
use Rattle.policy_cell.specs.declared.cell.RuleEntry.{RuleEntry}
use Rattle.world_model.specs.model.Ended.{IsThrough, all_done, is_stuck}
use Rattle.world_model.specs.model.Rounds.{moves}
use Rattle.world_model.specs.model.Scene.{Scene}
use Rattle.world_model.specs.model.Served.{Served}
use Rattle.world_model.specs.model.Shown.{IsShown, journals_of}
use Rattle.world_model.specs.model.Turns.{Moment, State, run_at}
use Rattle.world_model.specs.WorldConsts.{WorldConsts, scene_of}
use Rattle.world_model.specs.Runs.{AreTasks, HasMade, moment_of, programs_of}
use Rattle.world_model.specs.Tasks.{Tasked}
use Rattle.world_model.specs.World.{WorldInodeValue, journal_of}
use Rattle.world_close.specs.Closed.{AreWorldInodes, WorldClosed}

-- the lists of a world, as the state of a run
abbrev pub state_at : List WorldInodeValue → List Entry → List Event → List RuleEntry → State
state_at world_inodes list signals added = record {
  journals = map journal_of world_inodes;
  list = list;
  signals = signals;
  added = added;
}

-- each task has looked at all lists
abbrev pub HaveMade : WorldConsts → State → List Tasked → Type 0
HaveMade consts s tasks = (k : ℕ) (t : Tasked) → slice_get tasks k ≡ Some t → HasMade consts s t

-- a moment of a run at which the run may be shown, however it was reached
pub record IsFinished (scene : Scene) (m : Moment) : Type 0 where
  pub legal : All (λ (j : Journal). Legal j.inode j.events)
      (journals_of scene scene.script_files m.state.journals)
  pub merged : IsMerged scene.boot m.state.list
      (journals_of scene scene.script_files m.state.journals)
  pub served : Served scene (run_at m)
  pub reached : IsReached scene m

-- ---- the laws

-- if each task has looked at all lists, closing them yields a finished moment
abbrev pub ClosedIsFinished : Type 0
ClosedIsFinished =
    (consts : WorldConsts) (world_inodes : List WorldInodeValue) (list : List Entry)
    (signals : List Event) (added : List RuleEntry) (tasks : List Tasked)
    → AreWorldInodes consts world_inodes → AreTasks consts tasks → length tasks ≡ consts.tasks
    → HaveMade consts (state_at world_inodes list signals added) tasks
    → WorldClosed consts world_inodes list signals added (map (λ (t : Tasked). t.passes) tasks)
    → IsFinished (scene_of consts (programs_of tasks))
    (moment_of (state_at world_inodes list signals added) tasks)

-- at a finished moment at which no task can move, each is done or the run is stuck
abbrev pub FinishedEnds : Type 0
FinishedEnds = (scene : Scene) (m : Moment) → IsFinished scene m
    → ((n : ℕ) → n < length scene.programs → moves scene m n ≡ false)
    → (all_done scene.programs m.positions || is_stuck scene.programs m.positions) ≡ true

-- a finished run that has gone on as long as its ending asks may be shown
abbrev pub FinishedIsShown : Type 0
FinishedIsShown = (scene : Scene) (m : Moment) (ending : Ending) → IsFinished scene m
    → IsThrough ending
    (all_done scene.programs m.positions || is_stuck scene.programs m.positions)
    → IsShown scene ending (run_at m)
