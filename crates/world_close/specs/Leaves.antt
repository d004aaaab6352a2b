-- The final state of a world, by its closed lists and its tasks.
use Rattle.std.specs.Prelude.{◌≡◌, ℕ, ◌&&◌, ◌||◌, not, Bool, List, length, map, slice_get}
use Rattle.std.specs.List.{list_all, list_any}
use Rattle.measure_book.specs.Replay.{banks_of}
use Rattle.ima_templates.specs.declared.entry.Entry.{Entry}
use Rattle.inode_events.specs.NewestFirst.{newest_first}
use Rattle.inode_events.specs.Semaphores.{left}
use Rattle.inode_events.specs.declared.told.Event.{Event}
use Rattle.run_model.specs.rules.declared.cell.RuleEntry.{RuleEntry}
use Rattle.run_model.specs.Ended.{is_done, waits_in_vain}
use Rattle.run_model.specs.EndedValue.{EndedTaskValue, EndedValue, appends, ended_of}
use Rattle.run_model.specs.Turns.{run_at}
use Rattle.world_close.specs.worlds.WorldConsts.{WorldConsts, scene_of}
use Rattle.world_close.specs.worlds.Runs.{moment_of, programs_of}
use Rattle.world_close.specs.worlds.Tasks.{Tasked}
use Rattle.world_close.specs.worlds.World.{WorldInodeValue}
use Rattle.world_close.specs.Closed.{AreWorldInodes, ended_world_inode}
use Rattle.world_close.specs.Finished.{IsFinished, state_at}

-- ---- a task

-- each of the task's calls is answered
abbrev pub done_by : Tasked → Bool
done_by t = is_done t.task_state.program t.task_state.position

abbrev pub task_left : Tasked → EndedTaskValue
task_left t = record { done = done_by t; replies = t.task_state.position.replies }

-- the task is done, or its next call waits for a semaphore with no post left
abbrev pub rests : (ℕ → ℕ) → Tasked → Bool
rests left_of t =
    done_by t || waits_in_vain left_of
    (slice_get t.task_state.program.calls (length t.task_state.position.replies))

-- the task's program can append a rule
abbrev pub may_append : Tasked → Bool
may_append t = list_any appends t.task_state.program.calls

-- ---- all tasks

-- some task isn't done, and none can go on
abbrev pub are_stuck : (ℕ → ℕ) → List Tasked → Bool
are_stuck left_of tasks = not (list_all done_by tasks) && list_all (rests left_of) tasks

-- ---- the world

abbrev pub left_by : WorldConsts → List WorldInodeValue → List Entry → List Event → List RuleEntry
    → List Tasked → EndedValue
left_by consts world_inodes list signals added tasks = record {
  inodes = map ended_world_inode world_inodes;
  list = list;
  banks = banks_of list;
  tasks = map task_left tasks;
  stuck = are_stuck (λ sem. left sem (newest_first signals)) tasks;
  template = consts.settings.template;
  rules = added;
  base = length consts.base;
  grows = list_any may_append tasks;
}

-- the final state of the closed lists and the tasks is the final state of the run
abbrev pub ClosedIsLeft : Type 0
ClosedIsLeft =
    (consts : WorldConsts) (world_inodes : List WorldInodeValue) (list : List Entry)
    (signals : List Event)
    (added : List RuleEntry) (tasks : List Tasked) → AreWorldInodes consts world_inodes
    → IsFinished (scene_of consts (programs_of tasks))
    (moment_of (state_at world_inodes list signals added) tasks)
    → left_by consts world_inodes list signals added tasks
    ≡ ended_of (scene_of consts (programs_of tasks))
    (run_at (moment_of (state_at world_inodes list signals added) tasks))
