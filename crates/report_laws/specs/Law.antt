-- The laws that a report determines the run that it shows, and so does a text that begins with it.
use Rattle.std.specs.Prelude.{◌≡◌, ℕ, List, ◌++◌, map}
use Rattle.std.specs.List.{AllByRecursion}
use Rattle.call_steps.specs.declared.call.Call.{Call}
use Rattle.call_steps.specs.declared.call.Call.TheVariants as call
use Rattle.call_steps.specs.declared.ending.Ending.{Ending}
use Rattle.call_steps.specs.policy.RuleValue.{IsRule}
use Rattle.run_model.specs.EndedValue.{ended_of}
use Rattle.run_model.specs.Scene.{Program, Scene, ScriptFile}
use Rattle.run_model.specs.Served.{Run}
use Rattle.run_model.specs.Shown.{IsShown}
use Rattle.run_laws.specs.shown.Places.{HasForms}
use Rattle.report_text.specs.Ranges.{IsChange, IsClean}
use Rattle.report_text.specs.Report.{report_of}
use Rattle.ima_templates.specs.xattrs.Attrs.{Pair}

-- the two runs have the same journal for each inode, the same list, the same appended rules, and
-- the same replies for each task
pub record IsSameRun (a b : Run) : Type 0 where
  pub journals : a.journals ≡ b.journals
  pub list : a.list ≡ b.list
  pub added : a.added ≡ b.added
  pub replies : map (λ t. t.replies) a.positions ≡ map (λ t. t.replies) b.positions

-- the names, modes and rules of a call are some that a line can show
abbrev pub IsNamedCall : Call → Type 0
IsNamedCall (call.SetAttr inode name value) = IsClean name
IsNamedCall (call.SetMeta inode change) = IsChange change
IsNamedCall (call.AddRule rule) = IsRule rule
IsNamedCall _ = Unit {0}

-- the names and rules of a scene are some that a line can show, as those of each script are
pub record HasNames (scene : Scene) : Type 0 where
  pub forms : HasForms scene
  pub attrs : AllByRecursion (λ (s : ScriptFile). AllByRecursion (λ (p : Pair). IsClean p.0)
      s.birth.attrs) scene.script_files
  pub calls : AllByRecursion (λ (p : Program). AllByRecursion IsNamedCall p.calls) scene.programs

-- two runs shown by one script with equal reports are the same run
abbrev pub ReportDetermines : Type 0
ReportDetermines =
    (scene : Scene) (ending : Ending) (a b : Run) → HasNames scene
    → IsShown scene ending a → IsShown scene ending b
    → report_of (ended_of scene a) ≡ report_of (ended_of scene b)
    → IsSameRun a b

-- two runs shown by one script are the same run if equal texts begin with their reports, whatever
-- follows: a report ends at its first line `end`
abbrev pub BeginningDetermines : Type 0
BeginningDetermines =
    (scene : Scene) (ending : Ending) (a b : Run) (x y : List ℕ) → HasNames scene
    → IsShown scene ending a → IsShown scene ending b
    → report_of (ended_of scene a) ++ x ≡ report_of (ended_of scene b) ++ y
    → IsSameRun a b
