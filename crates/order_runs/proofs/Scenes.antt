-- The scene of a play's script.
use Rattle.std.proofs.Common.{◌≡◌, ◌==◌, ℕ, Bool, true, false, nat_lt, List, length, refl, ap, sym, ◌∙◌, eqb-true}
use Rattle.std.specs.Prelude.{Result, Ok, Err}
use Rattle.std.proofs.Math.Bool.{Bool-set}
use Rattle.std.proofs.lemmas.List.{length-map}
use Rattle.std.proofs.lemmas.Bool.{and_parts, true≢false}
use Rattle.order_outcomes.specs.reports.model.Scene.{Scene}
use Rattle.order_outcomes.specs.reports.model.policy.RuleValue.{is_named_template}
use Rattle.order_outcomes.specs.scripts.Grammar.{script_of}
use Rattle.order_outcomes.specs.scripts.ScriptValue.{ScriptValue}
use Rattle.order_outcomes.specs.scripts.script_lines.declared.fault.Fault.{Fault}
use Rattle.order_outcomes.specs.scripts.script_lines.declared.fault.LineCause.{LineCause}
use Rattle.script_start.specs.scenes.Scene.{IsForFiles, program_of, scene_of}
use Rattle.order_runs.specs.Plays.{IsScriptOf, has_tasks, is_play, scene_by, scene_in, scene_read}

-- ---- the scene

-- by whichever proof that its template is for files, a script has one scene
by_template : (s : ScriptValue) (b : Bool) (e : is_named_template s.template ≡ b)
    → (for_files : IsForFiles s) → scene_by s b e ≡ scene_of s for_files
by_template s true e for_files =
    ap (scene_of s) (Bool-set (is_named_template s.template) true e for_files)
by_template s false e for_files = absurd (true≢false (sym for_files ∙ e))

pub scene_is : (s : ScriptValue) (for_files : IsForFiles s)
    → scene_by s (is_named_template s.template) refl ≡ scene_of s for_files
scene_is s for_files = by_template s (is_named_template s.template) refl for_files

-- the programs of the scene are those of the script's tasks
pub programs_are : (scene : Scene) (s : ScriptValue) → IsScriptOf scene s
    → is_named_template s.template ≡ true → length scene.programs ≡ length s.tasks
programs_are scene s is for_files =
    ap (λ (x : Scene). length x.programs) (sym is ∙ scene_is s for_files)
    ∙ length-map s.tasks program_of

-- ---- plays

-- a play has as many tasks as its scene
tasks_by : (count : ℕ) (r : Result ScriptValue (Fault LineCause)) → has_tasks count r ≡ true
    → count ≡ length (scene_read r).programs
tasks_by count (Ok s) h =
    let both = and_parts (is_named_template s.template) (count == length s.tasks) h in
    eqb-true count (length s.tasks) both.1
    ∙ sym (programs_are (scene_by s (is_named_template s.template) refl) s refl both.0)
tasks_by count (Err fault) h = absurd (true≢false (sym h))

pub tasks_are : (text : List ℕ) (count : ℕ) → is_play text count ≡ true
    → count ≡ length (scene_in text).programs
tasks_are text count h =
    tasks_by count (script_of text)
    (and_parts (nat_lt (length text) 4294967295) (has_tasks count (script_of text)) h).1

-- its text isn't refused
pub not_refused : (text : List ℕ) (count : ℕ) (fault : Fault LineCause)
    → is_play text count ≡ true → script_of text ≡ Err fault → ⊥
not_refused text count fault h refused =
    true≢false (sym (and_parts (nat_lt (length text) 4294967295)
    (has_tasks count (script_of text)) h).1 ∙ ap (has_tasks count) refused)
