-- The kernel's reads in a run of a script are sound.
use Rattle.std.proofs.Common.{ℕ, Bool, List}
use Rattle.kernel_read.proofs.about_laws.Sound.{reads_soundly}
use Rattle.script_run.specs.model.EndedValue.{EndedValue}
use Rattle.script_run.specs.scenes.Scene.{scene_of}
use Rattle.script_run.proofs.Forms.{script_forms}
use Rattle.script_text.specs.ScriptValue.{ScriptValue}
use Rattle.ima_top.specs.commands.Loads.{IsReportAndTable, table_of}
use Rattle.ima_top.specs.commands.Ran.{IsLeftBy, IsReportAnd}

-- the report and the table of a script are those of a run whose reads are sound
pub soundly_tabled : (s : ScriptValue) (e : EndedValue) (stuck : Bool) (output : List ℕ)
    → IsLeftBy s e → IsReportAnd table_of s stuck output → IsReportAndTable s stuck output
soundly_tabled s e stuck output left report =
    let has = report.has_run in record {
      report = report;
      sound = reads_soundly (scene_of s has.for_files) s.ending has.run has.promised.shown
          (script_forms s left.kept has.for_files);
    }
