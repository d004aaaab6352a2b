-- The invariants of the tasks during a run.
use Rattle.std.proofs.Common.{◌≡◌, ◌<◌, ℕ, false, List, [], length, Some, refl, sym, ◌∙◌, ap, subst}
use Rattle.std.specs.Prelude.{slice_get, slice_index_or}
use Rattle.std.proofs.lemmas.List.{length-map}
use Rattle.std.proofs.lemmas.Option.{slice_get-get_or}
use Rattle.task_core.proofs.laws_of_progress.Rounds.{round_at_rest}
use Rattle.run_model.specs.Rounds.{RoundsTo, moves}
use Rattle.run_model.specs.Scene.{Program}
use Rattle.run_model.specs.Turns.{Moment}
use Rattle.task_core.specs.worlds.Runs.{AreTasks, program_of}
use Rattle.task_core.specs.worlds.Tasks.{Tasked}
use Rattle.task_core.specs.worlds.World.{WorldValue}
use Rattle.task_core.specs.worlds.WorldRuns.{HasTurned, SameRun, scene_in}

-- there is a task of this number
pub task_there : (tasks : List Tasked) (k : ℕ) (t : Tasked) → k < length tasks
    → t ≡ slice_index_or tasks k t → slice_get tasks k ≡ Some t
task_there tasks k t h e =
    slice_get-get_or tasks k t h ∙ ap (λ (x : Tasked). Some x) (sym e)

-- there are as many tasks as before
pub same_run_even : (world w1 : WorldValue) (tasks t1 : List Tasked) → SameRun world w1 tasks t1
    → length t1 ≡ length tasks
same_run_even world w1 tasks t1 s =
    sym (length-map t1 program_of) ∙ ap (λ (ps : List Program). length ps) s.programs
    ∙ length-map tasks program_of

-- `SameRun` holds before the first turn
pub same_run_here : (world : WorldValue) (tasks : List Tasked) → AreTasks world.consts tasks
    → SameRun world world tasks tasks
same_run_here world tasks all = record { consts = refl; programs = refl; each = all }

-- `HasTurned` holds for no turns
pub no_turns : (world : WorldValue) (tasks : List Tasked) → AreTasks world.consts tasks
    → HasTurned world world tasks tasks []
no_turns world tasks all = record { still = same_run_here world tasks all; run = refl }

-- no task moves at the moment at which rounds end
pub none_moves : (world : WorldValue) (tasks : List Tasked) (start end : Moment)
    → RoundsTo (scene_in world tasks) start end → (k : ℕ) → k < length tasks
    → moves (scene_in world tasks) end k ≡ false
none_moves world tasks start end x k h =
    round_at_rest (scene_in world tasks) end x.still k
    (subst (λ (n : ℕ). k < n) (sym (length-map tasks program_of)) h)
