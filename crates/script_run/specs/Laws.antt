-- The laws of the runs that may be shown for a script: each is sound, and its report tells it.
use Rattle.std.specs.Prelude.{◌≡◌}
use Rattle.report_laws.specs.Law.{IsSameRun}
use Rattle.report_text.specs.Report.{report_of}
use Rattle.run_model.specs.EndedValue.{ended_of}
use Rattle.run_model.specs.Served.{Run}
use Rattle.run_model.specs.Shown.{IsShown}
use Rattle.script_start.specs.scenes.Scene.{IsForFiles, scene_of}
use Rattle.script_text.specs.Forms.{IsScript}
use Rattle.script_text.specs.ScriptValue.{ScriptValue}
use Rattle.run_laws.specs.shown.Laws.{IsSound}

-- whatever run may be shown for a script is fresh, covered, admitted, denied, labelled and rarely
-- hashed
abbrev pub ShownRunsAreSound : Type 0
ShownRunsAreSound = (s : ScriptValue) → IsScript s → (for_files : IsForFiles s) → (run : Run)
    → IsShown (scene_of s for_files) s.ending run → IsSound (scene_of s for_files) run

-- two runs that may be shown for the script are the same run if their reports are equal
abbrev pub ReportsTellRuns : ScriptValue → Type 0
ReportsTellRuns s = (for_files : IsForFiles s) → (a b : Run)
    → IsShown (scene_of s for_files) s.ending a → IsShown (scene_of s for_files) s.ending b
    → report_of (ended_of (scene_of s for_files) a)
    ≡ report_of (ended_of (scene_of s for_files) b)
    → IsSameRun a b
