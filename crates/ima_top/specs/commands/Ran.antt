-- What `audit` and `loads` have in common: the run of a script, and the report of that run with a
-- further text of it; or the script's first bad line and the cause.
use Rattle.std.specs.Prelude.{◌≡◌, ℕ, Bool, List, ◌++◌, Option}
use Rattle.report_text.specs.Report.{report_of}
use Rattle.script_run.specs.Run.{HasRun}
use Rattle.script_run.specs.laws_of_reports.Law.{IsSameRun}
use Rattle.script_run.specs.model.EndedValue.{EndedValue, ended_of}
use Rattle.script_run.specs.model.Served.{Run}
use Rattle.script_run.specs.model.Shown.{IsShown}
use Rattle.script_run.specs.scenes.Scene.{IsForFiles, scene_of}
use Rattle.script_text.specs.Forms.{IsScript}
use Rattle.script_text.specs.Grammar.{script_of}
use Rattle.script_text.specs.ScriptValue.{ScriptValue}
use Rattle.ima_top.specs.commands.BadLine.{refusal_of}

-- the line that refuses an input that isn't a script
unfoldable pub script_refusal : List ℕ → Option (List ℕ)
script_refusal input = refusal_of (script_of input)

-- the script is well formed, and a run of it leaves this state
pub record IsLeftBy (s : ScriptValue) (ended : EndedValue) : Type 0 where
  pub kept : IsScript s
  pub has_run : HasRun s ended

-- a kind of text about a run: the text is made of the script and the state that the run leaves
abbrev pub RunText : Type 0
RunText = (s : ScriptValue) → IsForFiles s → EndedValue → List ℕ

-- the text is the one about a run of the script that left this state
abbrev pub IsTextOf : RunText → ScriptValue → EndedValue → List ℕ → Type 0
IsTextOf text_of s e text = (for_files : IsForFiles s) → text ≡ text_of s for_files e

-- the report of a run of the script that left this state, and then the text
abbrev pub report_and : RunText → (s : ScriptValue) → IsForFiles s → EndedValue → List ℕ
report_and text_of s for_files e = report_of e ++ text_of s for_files e

-- the bytes are the report and the text of a run of the script, which is stuck or not, as the flag
-- says
pub record IsReportAnd (text_of : RunText) (s : ScriptValue) (stuck : Bool) (output : List ℕ)
    : Type 0 where
  pub ended : EndedValue
  pub has_run : HasRun s ended
  pub is_stuck : ended.stuck ≡ stuck
  pub text : output ≡ report_and text_of s has_run.for_files ended
  -- each run that may be shown for the script and has the same report and text is this run
  pub only : (other : Run) → IsShown (scene_of s has_run.for_files) s.ending other
      → report_and text_of s has_run.for_files (ended_of (scene_of s has_run.for_files) other)
      ≡ output → IsSameRun other has_run.run
