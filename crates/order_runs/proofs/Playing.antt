-- Runs of a play by its turns.
use Rattle.std.proofs.Common.{◌≡◌, ℕ, ◌<◌, true, List, [], ◌∷◌, length, ap, sym, subst, ◌∙◌}
use Rattle.std.specs.Prelude.{All, nat_lt}
use Rattle.std.specs.List.{list_all}
use Rattle.std.proofs.lemmas.Bool.{and_parts, ltb-true}
use Rattle.std.proofs.lemmas.List.{length-map}
use Rattle.std.proofs.lemmas.List.Elements.{All-cons, All-nil}
use Rattle.order_outcomes.proofs.Moving.{Fits, start_fits, turn_fits}
use Rattle.order_outcomes.specs.Orders.{left_at}
use Rattle.order_outcomes.specs.reports.model.EndedValue.{ended_of}
use Rattle.order_outcomes.specs.reports.model.Scene.{Scene}
use Rattle.order_outcomes.specs.reports.model.Turns.{Moment, run_at, start_of, turn, turns_of}
use Rattle.order_outcomes.specs.scripts.Forms.{IsScript}
use Rattle.order_outcomes.specs.scripts.ScriptValue.{ScriptValue}
use Rattle.order_outcomes.specs.reports.model.steps.declared.ending.Ending.{Ending}
use Rattle.script_start.specs.Started.{HasStarted}
use Rattle.task_core.specs.worlds.WorldConsts.{WorldConsts, scene_of}
use Rattle.task_core.specs.worlds.Runs.{program_of}
use Rattle.task_core.specs.worlds.Tasks.{Tasked}
use Rattle.task_core.specs.worlds.World.{WorldValue}
use Rattle.task_core.specs.worlds.WorldRuns.{SameRun, moment_in, scene_in}
use Rattle.world_close.specs.Finished.{IsFinished}
use Rattle.order_runs.specs.Plays.{IsRunTo, IsSchedule, IsScriptOf, moment_by}
use Rattle.order_sights.specs.Sights.{IsSight}
use Rattle.order_sights.specs.declared.sight.Sight.{Sight}
use Rattle.order_runs.proofs.Scenes.{scene_is}

-- ---- the start

-- the tasks of a scene's programs
tasks_of : (scene : Scene) (world : WorldValue) (tasks : List Tasked)
    → scene_in world tasks ≡ scene → length tasks ≡ length scene.programs
tasks_of scene world tasks is =
    sym (length-map tasks program_of) ∙ ap (λ (x : Scene). length x.programs) is

all_below : (count : ℕ) (turns : List ℕ) → list_all (λ n. nat_lt n count) turns ≡ true
    → All (λ n. n < count) turns
all_below count [] h = All-nil (λ n. n < count)
all_below count (n ∷ ns) h =
    let parts = and_parts (nat_lt n count) (list_all (λ k. nat_lt k count) ns) h in
    All-cons (λ k. k < count) n ns (ltb-true n count parts.0) (all_below count ns parts.1)

module _ (scene : Scene) (turns : List ℕ) (s : ScriptValue) (is : IsScriptOf scene s)
    (kept : IsScript s) (world : WorldValue) (tasks : List Tasked) (way : Ending)
    (h : HasStarted s world tasks way) where
  scene_started : scene_in world tasks ≡ scene
  scene_started = h.scene kept.template ∙ sym (scene_is s kept.template) ∙ is

  -- the turns are of the tasks
  pub turns_within : IsSchedule scene turns → All (λ k. k < length tasks) turns
  turns_within fits =
      subst (λ count. All (λ k. k < count) turns) (sym (tasks_of scene world tasks scene_started))
      (all_below (length scene.programs) turns fits.named)

  -- ---- after the turns

  module _ (world2 : WorldValue) (tasks2 : List Tasked)
      (still : SameRun world world2 tasks tasks2)
      (run : moment_in world2 tasks2
      ≡ turns_of (scene_in world tasks) (moment_in world tasks) turns) where
    scene_after : scene_in world2 tasks2 ≡ scene
    scene_after = (λ k. scene_of (still.consts k) (still.programs k)) ∙ scene_started

    pub run_to : IsRunTo scene turns world2 tasks2
    run_to = record {
      scene_is = scene_after;
      moment_is = run ∙ ap (λ (m : Moment). turns_of (scene_in world tasks) m turns) h.start
          ∙ ap (λ (x : Scene). moment_by x turns) scene_started;
      each = still.each;
      count = tasks_of scene world2 tasks2 scene_after
          ∙ sym (tasks_of scene world tasks scene_started) ∙ h.count
          ∙ sym (ap (λ (f : WorldConsts). f.tasks) still.consts);
    }

-- ---- sights

-- each turn leaves a journal for each file
turns_fit : (scene : Scene) (m : Moment) (turns : List ℕ) → Fits scene m
    → Fits scene (turns_of scene m turns)
turns_fit scene m [] fits = fits
turns_fit scene m (n ∷ ns) fits = turns_fit scene (turn scene m n) ns (turn_fits scene m n fits)

-- two runs by the same turns, one of them closed
pub sighted : (scene : Scene) (turns : List ℕ) (closing : WorldValue) (closing_tasks : List Tasked)
    (s : Sight) → IsRunTo scene turns closing closing_tasks
    → s.ended ≡ ended_of (scene_in closing closing_tasks) (run_at (moment_in closing closing_tasks))
    → IsFinished (scene_in closing closing_tasks) (moment_in closing closing_tasks)
    → IsRunTo scene turns s.world s.tasks.items → IsSight scene (moment_by scene turns) s
sighted scene turns closing closing_tasks s run ended finished run2 = record {
  scene_is = run2.scene_is;
  moment_is = run2.moment_is;
  left = ended ∙ (λ k. left_at (run.scene_is k) (run.moment_is k));
  finished = subst (λ (m : Moment). IsFinished scene m) run.moment_is
      (subst (λ (x : Scene). IsFinished x (moment_in closing closing_tasks)) run.scene_is finished);
  even = (turns_fit scene (start_of scene) turns (start_fits scene)).journals;
}
