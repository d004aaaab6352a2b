-- What the end of a run says about its start.
use Rattle.std.proofs.Common.{◌≡◌, ◌<◌, ℕ, false, List, length, map, sym, ◌∙◌, ap, subst}
use mathlib.Core.List.{map-map}
use Rattle.run_model.specs.Rounds.{moves}
use Rattle.run_model.specs.Scene.{Program, Scene}
use Rattle.run_model.specs.Turns.{Moment}
use Rattle.task_core.specs.worlds.WorldConsts.{WorldConsts}
use Rattle.task_core.specs.worlds.Runs.{AreTasks}
use Rattle.task_core.specs.worlds.Tasks.{Tasked}
use Rattle.task_core.specs.worlds.World.{WorldValue}
use Rattle.task_core.specs.task_states.Value.{TaskValue}
use Rattle.task_runner.proofs.Running.{same_run_even}
use Rattle.task_core.proofs.about_worlds.Turning.{scene_same}
use Rattle.task_core.specs.worlds.WorldRuns.{SameRun, scene_in}
use Rattle.task_core.specs.ends.Settled.{HaveSameTaskStates, task_state_of}

-- no task moves, by the scene at the start
pub none_stirs : (world after : WorldValue) (old new : List Tasked) (m : Moment)
    → SameRun world after old new
    → ((k : ℕ) → k < length new → moves (scene_in after new) m k ≡ false)
    → (k : ℕ) → k < length old → moves (scene_in world old) m k ≡ false
none_stirs world after old new m runs stops k below =
    subst (λ (x : Scene). moves x m k ≡ false) (scene_same world after old new runs)
    (stops k (subst (λ (n : ℕ). k < n) (sym (same_run_even world after old new runs)) below))

-- the tasks that looked at all lists still belong to the same world
pub settled_runs : (world after : WorldValue) (old new : List Tasked)
    → after.consts ≡ world.consts → AreTasks world.consts new → HaveSameTaskStates old new
    → SameRun world after old new
settled_runs world after old new same tasks task_states =
    let own : TaskValue → Program = λ m. m.program in
    record {
      consts = same;
      programs = sym (map-map own task_state_of new)
          ∙ ap (λ (ms : List TaskValue). map own ms) task_states
          ∙ map-map own task_state_of old;
      each = subst (λ (f : WorldConsts). AreTasks f new) (sym same) tasks;
    }
