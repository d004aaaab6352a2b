-- The final state of a world when its lists are closed.
use Rattle.std.proofs.Common.{◌≡◌, ℕ, Bool, List, length, ap, sym, ◌∙◌, subst, Some, None}
use Rattle.std.specs.Prelude.{◌==◌, All, Option, false, map}
use mathlib.Core.List.{map-map}
use Rattle.ima_templates.specs.IsEntry.{IsEntry}
use Rattle.ima_templates.specs.declared.entry.Entry.{Entry}
use Rattle.inode_events.specs.declared.told.Event.{Event}
use Rattle.run_model.specs.rules.declared.cell.RuleEntry.{RuleEntry}
use Rattle.run_model.specs.EndedValue.{EndedValue}
use Rattle.run_model.specs.Scene.{Scene}
use Rattle.run_model.specs.Turns.{Moment, State}
use Rattle.world_close.specs.worlds.WorldConsts.{WorldConsts, scene_of}
use Rattle.world_close.specs.worlds.Runs.{AreTasks, moment_of, position_of, programs_of}
use Rattle.world_close.specs.worlds.Tasks.{Tasked}
use Rattle.world_close.specs.worlds.World.{WorldInodeValue}
use Rattle.world_close.specs.task_states.Value.{TaskValue}
use Rattle.world_close.specs.Closed.{AreWorldInodes, WorldClosed}
use Rattle.world_close.specs.Finished.{HaveMade, state_at}
use Rattle.world_close.proofs.Finishing.{finished}
use Rattle.world_close.proofs.Leaving.{closed_left}
use Rattle.world_close.specs.Leaves.{left_by}
use Rattle.world_close.specs.Settled.{HasEnded, HaveSameTaskStates, task_state_of}

-- ---- tasks

-- the awaited semaphore, if there is one, has no post left
abbrev pub vain : (ℕ → ℕ) → Option ℕ → Bool
vain left_of None = false
vain left_of (Some sem) = left_of sem == 0

-- ---- the world

-- the final state, by the closed lists and the tasks
pub closed_ended : (consts : WorldConsts) (world_inodes : List WorldInodeValue) (list : List Entry)
    (signals : List Event) (added : List RuleEntry) (tasks : List Tasked) (e : EndedValue)
    → AreWorldInodes consts world_inodes → AreTasks consts tasks → length tasks ≡ consts.tasks
    → HaveMade consts (state_at world_inodes list signals added) tasks
    → WorldClosed consts world_inodes list signals added (map (λ (t : Tasked). t.passes) tasks)
    → e ≡ left_by consts world_inodes list signals added tasks
    → HasEnded (scene_of consts (programs_of tasks))
    (moment_of (state_at world_inodes list signals added) tasks) e
closed_ended consts world_inodes list signals added tasks e are of count made closed is =
    let done = finished consts world_inodes list signals added tasks are of count made closed in
    record {
      ended = is ∙ closed_left consts world_inodes list signals added tasks are done;
      entries = subst (All IsEntry) (sym (ap (λ (x : EndedValue). x.list) is)) closed.entries;
      finished = done;
    }

-- the final state doesn't change if the tasks have only looked at the lists
pub ended_same : (consts frame2 : WorldConsts) (state state2 : State) (old new : List Tasked)
    (e : EndedValue) → frame2 ≡ consts → state2 ≡ state → HaveSameTaskStates old new
    → HasEnded (scene_of frame2 (programs_of new)) (moment_of state2 new) e
    → HasEnded (scene_of consts (programs_of old)) (moment_of state old) e
ended_same consts frame2 state state2 old new e consts_same states same =
    subst (λ (x : Scene × Moment). HasEnded x.0 x.1 e)
    (λ i. (
      scene_of (consts_same i) (programs i),
      record { state = states i; positions = positions i },
    )) where
      programs : programs_of new ≡ programs_of old
      programs =
          sym (map-map (λ (m : TaskValue). m.program) task_state_of new)
          ∙ ap (map (λ (m : TaskValue). m.program)) same
          ∙ map-map (λ (m : TaskValue). m.program) task_state_of old

      positions : map position_of new ≡ map position_of old
      positions =
          sym (map-map (λ (m : TaskValue). m.position) task_state_of new)
          ∙ ap (map (λ (m : TaskValue). m.position)) same
          ∙ map-map (λ (m : TaskValue). m.position) task_state_of old
