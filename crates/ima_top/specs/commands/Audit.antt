-- The command `audit`: the report of a run of a script, and then the trail of what the lines of
-- `audit` and `hash` asked for in that run.
use Rattle.std.specs.Prelude.{ℕ, Bool, List, IsOkAnd}
use Rattle.audit_trail.specs.Trail.{trail_text}
use Rattle.script_run.specs.scenes.Scene.{scene_of}
use Rattle.script_text.specs.Grammar.{script_of}
use Rattle.ima_top.specs.commands.Ran.{IsReportAnd, RunText}

-- the trail of a run of the script that left this state
abbrev pub trail_of : RunText
trail_of s for_files e = trail_text (scene_of s for_files) e

-- the output for a script is the report of its run, and the trail
unfoldable pub IsAuditOutput : List ℕ → Bool → List ℕ → Type 0
IsAuditOutput input stuck output =
    IsOkAnd (script_of input) (λ s. IsReportAnd trail_of s stuck output)
