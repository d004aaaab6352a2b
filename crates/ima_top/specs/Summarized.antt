-- The summary of the run of a generated script.
use Rattle.std.specs.Prelude.{◌≡◌, ℕ, false, List, length, Ok}
use Rattle.load_gen.specs.Accepted.{IsLoad}
use Rattle.load_gen.specs.Script.{script_text}
use Rattle.report_text.specs.Summary.{summary_of}
use Rattle.script_run.specs.model.EndedValue.{EndedValue}
use Rattle.script_run.specs.Run.{HasRun}
use Rattle.script_text.specs.Grammar.{script_of}
use Rattle.script_text.specs.ScriptValue.{ScriptValue}

-- the generated script of the number, and the length of its text in bytes
pub record IsLoaded (number : ℕ) (s : ScriptValue) (size : ℕ) : Type 0 where
  pub read : script_of (script_text number) ≡ Ok s
  pub load : IsLoad s
  pub counted : size ≡ length (script_text number)

-- the bytes are the summary of a run of the generated script of this number
pub record IsSummary (number : ℕ) (output : List ℕ) : Type 0 where
  pub script : ScriptValue
  pub size : ℕ
  pub loaded : IsLoaded number script size
  -- the state that a run leaves, with all that is promised of a run
  pub ended : EndedValue
  pub has_run : HasRun script ended
  -- the run isn't stuck
  pub goes_through : ended.stuck ≡ false
  pub summary : output ≡ summary_of number size ended
