-- The turns of a script lead to a run of the script, with all that is promised of it.
use Rattle.std.proofs.Common.{◌≡◌, ℕ, ◌<◌, true, false, nat_le, nat_lt, List, [], ◌∷◌, ◌++◌, length, Result, Ok, Err, IfOk, refl, ap, sym, subst, ◌∙◌}
use Rattle.std.specs.List.{AllByRecursion, list_all}
use Rattle.std.proofs.lemmas.List.{length-map}
use Rattle.std.proofs.lemmas.List.Elements.{All-from_recursion}
use Rattle.call_steps.specs.declared.ending.Ending.{Ending}
use Rattle.call_steps.specs.declared.ending.Ending.TheVariants as ending
use Rattle.measure_book.proofs.ReplayLemmas.{register-banks_of}
use Rattle.measure_book.specs.Replay.{banks_of}
use Rattle.run_model.specs.registers.Banks.{register}
use Rattle.run_model.specs.registers.declared.banks.Banks.{Banks}
use Rattle.run_model.specs.Ended.{IsThrough}
use Rattle.run_model.specs.EndedValue.{EndedValue, ended_of}
use Rattle.run_model.specs.Rounds.{IsRunOf, moves}
use Rattle.run_model.specs.Scene.{Scene}
use Rattle.run_model.specs.Shown.{IsShown}
use Rattle.run_model.specs.Turns.{Moment, run_at, start_of}
use Rattle.script_text.specs.Forms.{IsScript, is_ending}
use Rattle.script_text.specs.Limits.{most_threads, most_turns}
use Rattle.script_text.proofs.Holding.{left_true, right_true}
use Rattle.script_text.specs.ScriptValue.{ScriptValue}
use Rattle.report_laws.proofs.Ends.{beginning_determines}
use Rattle.report_text.specs.Report.{report_of}
use Rattle.run_laws.proofs.shown.Denied.{denied_there}
use Rattle.run_laws.proofs.shown.Sound.{admitted_there, covered_there, fresh_there, labelled_there, rare_there}
use Rattle.run_laws.specs.shown.Places.{HasForms}
use Rattle.task_runner.specs.worlds.WorldConsts as worlds
use Rattle.task_runner.specs.worlds.Runs as runs
use Rattle.task_runner.specs.worlds.Runs.{programs_of}
use Rattle.task_runner.specs.worlds.Tasks.{Tasked}
use Rattle.task_runner.specs.worlds.World.{WorldValue}
use Rattle.task_runner.specs.worlds.WorldRuns.{SameRun, moment_in, scene_in}
use Rattle.task_runner.specs.ends.Settled.{is_over}
use Rattle.script_start.specs.Started.{HasStarted}
use Rattle.script_start.specs.scenes.Scene.{IsForFiles, scene_of}
use Rattle.script_run.specs.Run.{AreRulesKept, AreWithin, HasRun, LeadsTo, Promised}
use Rattle.script_start.proofs.Fits.{at_most, below}
use Rattle.script_run.proofs.Forms.{script_forms}
use Rattle.script_run.proofs.Names.{script_names}

-- a run that an ending leads to has gone on for as long as the ending asks
through : (scene : Scene) (count : ℕ) (way : Ending) (m end : Moment)
    → LeadsTo scene count way m end
    → (((k : ℕ) → k < count → moves scene end k ≡ false) → is_over scene end ≡ true)
    → IsThrough way (is_over scene end)
through scene count (ending.Schedule turns) m end leads ends = tt
through scene count ending.Rounds m end leads ends = ends leads.1
through scene count (ending.Threads n) m end leads ends = ends leads

-- a run that an ending leads to is a run of its scene
own : (scene : Scene) (count : ℕ) (way : Ending) (end : Moment)
    → LeadsTo scene count way (start_of scene) end → IsRunOf scene way (run_at end)
own scene count (ending.Schedule turns) end leads = ap run_at leads
own scene count ending.Rounds end leads = (end, (leads.0, refl))
own scene count (ending.Threads n) end leads = tt

-- all that is promised of a run holds of the run that the turns lead to
promised : (s : ScriptValue) → IsScript s → (for_files : IsForFiles s) (count : ℕ)
    (end : Moment) (e : EndedValue)
    → LeadsTo (scene_of s for_files) count s.ending (start_of (scene_of s for_files)) end
    → e ≡ ended_of (scene_of s for_files) (run_at end)
    → (((k : ℕ) → k < count → moves (scene_of s for_files) end k ≡ false)
    → is_over (scene_of s for_files) end ≡ true)
    → ((way : Ending) → IsThrough way (is_over (scene_of s for_files) end)
    → IsShown (scene_of s for_files) way (run_at end))
    → Promised (scene_of s for_files) s.ending (run_at end) e
promised s kept for_files count end e leads ended ends shows =
    let scene = scene_of s for_files in
    let run = run_at end in
    let shown = shows s.ending (through scene count s.ending (start_of scene) end leads ends) in
    let forms : HasForms scene = script_forms s kept for_files in record {
      shown = shown;
      own = own scene count s.ending end leads;
      leaves = ended;
      fresh = fresh_there scene s.ending run shown;
      covered = covered_there scene s.ending run shown forms;
      replayed = λ bank pcr below.
          ap (λ (x : Banks). register x bank pcr) (ap (λ (x : EndedValue). x.banks) ended
          ∙ ap (λ (x : EndedValue). banks_of x.list) (sym ended))
          ∙ register-banks_of e.list bank pcr below;
      admitted = admitted_there scene s.ending run shown;
      denied = denied_there scene s.ending run shown;
      labelled = labelled_there scene s.ending run shown;
      rarely_hashed = rare_there scene s.ending run shown;
    }

-- a schedule of a script names only its tasks
turns_within : (n : ℕ) (turns : List ℕ) → list_all (λ t. nat_lt t n) turns ≡ true
    → AllByRecursion (λ k. k < n) turns
turns_within n [] h = tt
turns_within n (t ∷ ts) h = (
  below t n (left_true (nat_lt t n) (list_all (λ u. nat_lt u n) ts) h),
  turns_within n ts (right_true (nat_lt t n) (list_all (λ u. nat_lt u n) ts) h),
)

ending_within : (n : ℕ) (way : Ending) → is_ending n way ≡ true → AreWithin n way
ending_within n (ending.Schedule turns) h =
    All-from_recursion (λ k. k < n) turns (turns_within n turns
    (left_true (list_all (λ t. nat_lt t n) turns) (nat_le (length turns) most_turns) h))
ending_within n ending.Rounds h = tt
ending_within n (ending.Threads m) h =
    at_most 1 m (left_true (nat_le 1 m) (nat_le m most_threads) h)

pub within : (s : ScriptValue) (world : WorldValue) (tasks : List Tasked) (way : Ending)
    → IsScript s → HasStarted s world tasks way → AreWithin (length tasks) way
within s world tasks way kept started =
    subst (λ (x : ℕ × Ending). AreWithin x.0 x.1)
    (λ i. (sym started.all i, sym started.ending i))
    (ending_within (length s.tasks) s.ending kept.ending)

-- after the turns there are still as many tasks as the world has
pub same_run_all : (s : ScriptValue) (world world2 : WorldValue) (tasks tasks2 : List Tasked)
    (way : Ending) → HasStarted s world tasks way → SameRun world world2 tasks tasks2
    → length tasks2 ≡ world2.consts.tasks
same_run_all s world world2 tasks tasks2 way started still =
    sym (length-map tasks2 runs.program_of) ∙ ap length still.programs
    ∙ length-map tasks runs.program_of ∙ started.count
    ∙ ap (λ (f : worlds.WorldConsts). f.tasks) (sym still.consts)

module _ (s : ScriptValue) (kept : IsScript s) (world world2 : WorldValue)
    (tasks tasks2 : List Tasked) (way : Ending) (started : HasStarted s world tasks way)
    (still : SameRun world world2 tasks tasks2)
    (leads : LeadsTo (scene_in world tasks) (length tasks) way (moment_in world tasks)
    (moment_in world2 tasks2)) where
  -- the turns don't change the number of tasks
  pub same_count : length tasks2 ≡ length tasks
  same_count = sym (length-map tasks2 runs.program_of) ∙ ap length still.programs
      ∙ length-map tasks runs.program_of

  -- the scene after the turns is still the script's
  same_scene : scene_in world2 tasks2 ≡ scene_of s kept.template
  same_scene = (λ i. worlds.scene_of (still.consts i) (still.programs i))
      ∙ started.scene kept.template

  leads_on : LeadsTo (scene_of s kept.template) (length tasks2) s.ending
      (start_of (scene_of s kept.template)) (moment_in world2 tasks2)
  leads_on = subst (λ (x : Scene). LeadsTo x (length tasks2) s.ending (start_of x)
      (moment_in world2 tasks2)) (started.scene kept.template)
      (subst (λ (w : Ending). LeadsTo (scene_in world tasks) (length tasks2) w
      (start_of (scene_in world tasks)) (moment_in world2 tasks2)) started.ending
      (subst (λ (n : ℕ). LeadsTo (scene_in world tasks) n way
      (start_of (scene_in world tasks)) (moment_in world2 tasks2)) (sym same_count)
      (subst (λ (m : Moment). LeadsTo (scene_in world tasks) (length tasks) way m
      (moment_in world2 tasks2)) started.start leads)))

  -- what the close ensures of the run holds of the script
  pub has_run : AreRulesKept s → (e : EndedValue)
      → e ≡ ended_of (scene_in world2 tasks2) (run_at (moment_in world2 tasks2))
      → (((k : ℕ) → k < length tasks2
      → moves (scene_in world2 tasks2) (moment_in world2 tasks2) k ≡ false)
      → is_over (scene_in world2 tasks2) (moment_in world2 tasks2) ≡ true)
      → ((w : Ending) → IsThrough w (is_over (scene_in world2 tasks2) (moment_in world2 tasks2))
      → IsShown (scene_in world2 tasks2) w (run_at (moment_in world2 tasks2)))
      → HasRun s e
  has_run rules e ended ends shows =
      let m = moment_in world2 tasks2 in
      let p : Promised (scene_of s kept.template) s.ending (run_at m) e =
      promised s kept kept.template (length tasks2) m e leads_on
      (ended ∙ ap (λ (x : Scene). ended_of x (run_at m)) same_scene)
      (subst (λ (x : Scene). ((k : ℕ) → k < length tasks2 → moves x m k ≡ false)
      → is_over x m ≡ true) same_scene ends)
      (subst (λ (x : Scene). (w : Ending) → IsThrough w (is_over x m)
      → IsShown x w (run_at m)) same_scene shows) in
      record {
        for_files = kept.template;
        run = run_at m;
        promised = p;
        only = λ other x y shown same.
            beginning_determines (scene_of s kept.template) s.ending other (run_at m) x y
            (script_names s kept rules kept.template) shown p.shown
            (same ∙ ap (λ (z : EndedValue). report_of z ++ y) p.leaves);
      }

  -- a successful close returns the state that a run of the script leaves
  pub run_is : {E : Type 0} (r : Result EndedValue E) → AreRulesKept s
      → IfOk r (λ e. e ≡ ended_of (scene_in world2 tasks2) (run_at (moment_in world2 tasks2)))
      → IfOk r (λ e. ((k : ℕ) → k < length tasks2
      → moves (scene_in world2 tasks2) (moment_in world2 tasks2) k ≡ false)
      → is_over (scene_in world2 tasks2) (moment_in world2 tasks2) ≡ true)
      → IfOk r (λ e. (w : Ending)
      → IsThrough w (is_over (scene_in world2 tasks2) (moment_in world2 tasks2))
      → IsShown (scene_in world2 tasks2) w (run_at (moment_in world2 tasks2)))
      → IfOk r (HasRun s)
  run_is (Ok e) rules ended ends shows = has_run rules e ended ends shows
  run_is (Err e) rules ended ends shows = tt
