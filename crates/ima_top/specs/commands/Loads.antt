-- The command `loads`: the report of a run of a script, and then the table of what the kernel
-- itself has read in that run.
use Rattle.std.specs.Prelude.{ℕ, Bool, List, IsOkAnd}
use Rattle.kernel_read.specs.Table.{calls_of, loads_text}
use Rattle.kernel_read.specs.laws.Reads.{AreKernelReadsSound}
use Rattle.script_run.specs.scenes.Scene.{scene_of}
use Rattle.script_text.specs.Grammar.{script_of}
use Rattle.script_text.specs.ScriptValue.{ScriptValue}
use Rattle.ima_top.specs.commands.Ran.{IsReportAnd, RunText}

-- the table of the kernel's reads in a run of the script that left this state
abbrev pub table_of : RunText
table_of s for_files e = loads_text (calls_of s) e

-- the bytes are the report and the table of a run of the script, which is stuck or not, as the flag
-- says
pub record IsReportAndTable (s : ScriptValue) (stuck : Bool) (output : List ℕ) : Type 0 where
  pub report : IsReportAnd table_of s stuck output
  -- each module and firmware call that was answered with `ok` has read its file soundly
  pub sound : AreKernelReadsSound (scene_of s report.has_run.for_files) report.has_run.run

-- the output for a script is the report of its run, and the table
unfoldable pub IsLoadsOutput : List ℕ → Bool → List ℕ → Type 0
IsLoadsOutput input stuck output =
    IsOkAnd (script_of input) (λ s. IsReportAndTable s stuck output)
