-- The scene of a script's text, and the state that is left by a run of some turns.
use Rattle.std.specs.Prelude.{◌≡◌, ℕ, ◌==◌, ◌≤◌, ◌&&◌, nat_lt, Bool, true, false, List, [], length, refl, IsOkAnd, Result, Ok, Err, None}
use Rattle.std.specs.List.{list_all}
use Rattle.order_outcomes.specs.Orders.{left_at}
use Rattle.order_outcomes.specs.reports.model.EndedValue.{EndedValue}
use Rattle.order_outcomes.specs.reports.model.Scene.{Scene}
use Rattle.order_outcomes.specs.reports.model.Turns.{Moment, start_of, turns_of}
use Rattle.order_outcomes.specs.reports.model.events.hashes.Digest.{zero_digest}
use Rattle.order_outcomes.specs.reports.model.events.hashes.declared.algo.Algo.TheVariants.{Sha256}
use Rattle.order_outcomes.specs.reports.model.events.meta.declared.appraisal.Mode.TheVariants.{Off}
use Rattle.order_outcomes.specs.reports.model.events.meta.declared.measurement.Template.TheVariants.{ImaNg}
use Rattle.order_outcomes.specs.reports.model.policy.RuleValue.{is_named_template}
use Rattle.order_outcomes.specs.scripts.Grammar.{script_of}
use Rattle.order_outcomes.specs.scripts.Limits.{most_turns}
use Rattle.order_outcomes.specs.scripts.ScriptValue.{ScriptValue}
use Rattle.order_outcomes.specs.scripts.script_lines.declared.fault.Fault.{Fault}
use Rattle.order_outcomes.specs.scripts.script_lines.declared.fault.LineCause.{LineCause}
use Rattle.order_outcomes.specs.scripts.script_lines.declared.fault.ScriptErr.{ScriptErr}
use Rattle.order_outcomes.specs.scripts.script_lines.Gives.{Fails}
use Rattle.script_start.specs.scenes.Scene.{scene_of}
use Rattle.task_core.specs.worlds.Runs.{AreTasks}
use Rattle.task_core.specs.worlds.Tasks.{Tasked}
use Rattle.task_core.specs.worlds.World.{WorldValue}
use Rattle.task_core.specs.worlds.WorldRuns as runs

-- ---- the scene of a text

-- a scene without files and tasks. No play has it: every script has a template for files
abbrev pub empty_scene : Scene
empty_scene = record {
  settings = record {
    hash = Sha256;
    template = ImaNg;
    mode = Off;
    evm = record { key = None; added = []; format = 1 };
    for_files = refl;
  };
  boot = record {
    pcr = 10;
    template = ImaNg;
    digest = zero_digest Sha256;
    name = [];
    sig = [];
    violation = false;
  };
  script_files = [];
  rules = [];
  programs = [];
}

abbrev pub scene_by : (s : ScriptValue) (b : Bool) → is_named_template s.template ≡ b → Scene
scene_by s true for_files = scene_of s for_files
scene_by s false not_for_files = empty_scene

abbrev pub scene_read : Result ScriptValue (Fault LineCause) → Scene
scene_read (Ok s) = scene_by s (is_named_template s.template) refl
scene_read (Err fault) = empty_scene

-- the scene of the script that the text is
abbrev pub scene_in : List ℕ → Scene
scene_in text = scene_read (script_of text)

-- it is a script, with a template for files and this number of tasks
abbrev pub has_tasks : ℕ → Result ScriptValue (Fault LineCause) → Bool
has_tasks count (Ok s) = is_named_template s.template && count == length s.tasks
has_tasks count (Err fault) = false

-- the text is a script, not too long, with this number of tasks
abbrev pub is_play : List ℕ → ℕ → Bool
is_play text count = nat_lt (length text) 4294967295 && has_tasks count (script_of text)

-- the script has this scene
abbrev pub IsScriptOf : Scene → ScriptValue → Type 0
IsScriptOf scene s = scene_by s (is_named_template s.template) refl ≡ scene

-- reading a text gives a play of its script, or fails as reading the script does
abbrev pub Plays : Result Scene (ScriptErr LineCause) → Result ScriptValue (Fault LineCause)
    → Type 0
Plays (Ok scene) said = IsOkAnd said (IsScriptOf scene)
Plays (Err e) said = Fails e said

-- ---- runs

-- the turns may be a schedule of the scene: there are such tasks, and not too many turns
pub record IsSchedule (scene : Scene) (turns : List ℕ) : Type 0 where
  pub named : list_all (λ n. nat_lt n (length scene.programs)) turns ≡ true
  pub few : length turns ≤ most_turns

-- the moment after these turns
abbrev pub moment_by : Scene → List ℕ → Moment
moment_by scene turns = turns_of scene (start_of scene) turns

-- the state that is left by a run of these turns
abbrev pub left_by : Scene → List ℕ → EndedValue
left_by scene turns = left_at scene (moment_by scene turns)

-- the world and its tasks after these turns
pub record IsRunTo (scene : Scene) (turns : List ℕ) (world : WorldValue) (tasks : List Tasked)
    : Type 0 where
  pub scene_is : runs.scene_in world tasks ≡ scene
  pub moment_is : runs.moment_in world tasks ≡ moment_by scene turns
  pub each : AreTasks world.consts tasks
  pub count : length tasks ≡ world.consts.tasks
