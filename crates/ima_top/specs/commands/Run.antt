-- The command `run`: the report of a run of a script, or the script's first bad line and the cause.
use Rattle.std.specs.Prelude.{◌≡◌, ℕ, Bool, List, Option, Some, None, Result, Ok, Err, IsOkAnd}
use Rattle.report_text.specs.Report.{report_of}
use Rattle.script_run.specs.model.EndedValue.{EndedValue}
use Rattle.script_run.specs.Run.{HasRun}
use Rattle.script_text.specs.Grammar.{script_of}
use Rattle.script_text.specs.ScriptValue.{ScriptValue}
use Rattle.script_words.specs.declared.fault.Fault.{Fault}
use Rattle.script_words.specs.declared.fault.LineCause.{LineCause}
use Rattle.ima_top.specs.commands.BadLine.{bad_line}

abbrev pub run_refusal_of : Result ScriptValue (Fault LineCause) → Option (List ℕ)
run_refusal_of (Ok s) = None
run_refusal_of (Err fault) = Some (bad_line fault)

-- the line that refuses an input that isn't a script
unfoldable pub run_refusal : List ℕ → Option (List ℕ)
run_refusal input = run_refusal_of (script_of input)

-- the bytes are the report of a run of the script, which is stuck or not, as the flag says
pub record IsReport (s : ScriptValue) (stuck : Bool) (output : List ℕ) : Type 0 where
  pub ended : EndedValue
  pub has_run : HasRun s ended
  pub is_stuck : ended.stuck ≡ stuck
  pub report : output ≡ report_of ended

-- the output for a script is the report of its run
unfoldable pub IsRunOutput : List ℕ → Bool → List ℕ → Type 0
IsRunOutput input stuck output = IsOkAnd (script_of input) (λ s. IsReport s stuck output)
