-- What a status says about the input, the output and the note.
use Rattle.std.specs.Prelude.{◌≡◌, ℕ, ◌+◌, ◌<◌, ◌≤◌, ◌⊎◌, ◌↔◌, List, length, Option, Some, IfSome, IsSome, Result, Ok, Err, IsOkAnd}
use Rattle.std.specs.Io.KnownBytes.{Appends, Consumes}
use Rattle.ima_io.specs.Bytes.{TookPart}
use Rattle.ima_io.specs.Counts.{Rose}
use Rattle.order_runs.specs.Plays.{IsScriptOf}
use Rattle.order_runs.specs.Stops.{HasTooMany}
use Rattle.order_runs.specs.Tables.{IsTable}
use Rattle.order_runs.specs.declared.rows.Row.{Row}
use Rattle.order_runs.specs.outcomes.reports.model.Scene.{Scene}
use Rattle.order_runs.specs.outcomes.scripts.Grammar.{script_of}
use Rattle.order_runs.specs.outcomes.scripts.ScriptValue.{ScriptValue}
use Rattle.order_top.specs.Limits.{most_input}
use Rattle.order_top.specs.NotDone.{refusal, too_many_line}
use Rattle.order_top.specs.Sorted.{sorted}
use Rattle.order_top.specs.Statuses as exit
use Rattle.order_top.specs.Text.{table_text}
use Rattle.order_top.specs.Words.{AskedValue}
use Rattle.order_top.specs.declared.not_done.NotDone.{NotDone}
use Rattle.order_top.specs.declared.not_done.NotDone.TheVariants.{OutOfMemory, Refused, TooMany, WriteFault}

-- the number is a status that `serve` may return
abbrev pub IsStatus : ℕ → Type 0
IsStatus status =
    (status ≡ exit.done) ⊎ (status ≡ exit.usage) ⊎ (status ≡ exit.refused)
    ⊎ (status ≡ exit.too_many) ⊎ (status ≡ exit.read_fault) ⊎ (status ≡ exit.write_fault)
    ⊎ (status ≡ exit.too_long) ⊎ (status ≡ exit.out_of_memory)

-- a status that is returned only if the input was read to its end
abbrev pub IsPastReading : ℕ → Type 0
IsPastReading status =
    (status ≡ exit.done) ⊎ (status ≡ exit.refused) ⊎ (status ≡ exit.too_many)
    ⊎ (status ≡ exit.write_fault)

-- P holds of the input. The source had the bytes `old` left before, and has `new` left after
pub record OnInput (old new : Option (List ℕ)) (P : List ℕ → Type 0) : Type 0 where
  pub input : List ℕ
  pub given : Consumes old new input
  pub holds : P input

-- ---- answers

-- the rows are those of the orders of the scene that begin so, in the order in which they are
-- printed
abbrev pub AreSortedRows : Scene → List ℕ → List Row → Type 0
AreSortedRows scene first rows =
    (table : List Row) × (IsTable scene first table × (rows ≡ sorted table))

-- the text is that of such rows
abbrev pub IsTableText : Scene → List ℕ → List ℕ → Type 0
IsTableText scene first text =
    (table : List Row) × (IsTable scene first table × (text ≡ table_text first (sorted table)))

-- the text is that of the rows of the script
abbrev pub IsTextOf : List ℕ → List ℕ → ScriptValue → Type 0
IsTextOf first text s = (scene : Scene) × (IsScriptOf scene s × IsTableText scene first text)

-- the bytes are an output for the input
abbrev pub IsOutput : List ℕ → List ℕ → List ℕ → Type 0
IsOutput first input output = IsOkAnd (script_of input) (IsTextOf first output)

-- the script has too much for what is asked
abbrev pub IsTooMuch : AskedValue → ScriptValue → Type 0
IsTooMuch asked s = (scene : Scene) × (IsScriptOf scene s × HasTooMany scene asked.first asked.most)

-- the input is a script that has too much for what is asked
abbrev pub IsStopped : AskedValue → List ℕ → Type 0
IsStopped asked input = IsOkAnd (script_of input) (IsTooMuch asked)

-- what is made of a scene, or why it isn't
abbrev pub IsMade : {A : Type 0} → Scene → AskedValue → (A → Type 0) → Result A NotDone → Type 0
IsMade scene asked P (Ok x) = P x
IsMade scene asked P (Err (TooMany line)) =
    (line.items ≡ too_many_line asked.most) × HasTooMany scene asked.first asked.most
IsMade scene asked P (Err OutOfMemory) = Unit {0}
IsMade scene asked P (Err _) = ⊥

-- the answer to an input, or why there is none
abbrev pub Answers : AskedValue → List ℕ → Result (List ℕ) NotDone → Type 0
Answers asked input (Ok output) = IsOutput asked.first input output
Answers asked input (Err (Refused line)) = refusal input ≡ Some line.items
Answers asked input (Err (TooMany line)) =
    (line.items ≡ too_many_line asked.most) × IsStopped asked input
Answers asked input (Err OutOfMemory) = Unit {0}
Answers asked input (Err _) = ⊥

-- ---- what was written

-- an output for the input was written whole
abbrev pub WroteWhole : List ℕ → List ℕ → Option (List ℕ) → Option (List ℕ) → Type 0
WroteWhole first input old new =
    (output : List ℕ) × IsOutput first input output × Appends old new output

-- a proper prefix of an output for the input was written
abbrev pub WrotePart : List ℕ → List ℕ → Option (List ℕ) → Option (List ℕ) → Type 0
WrotePart first input old new =
    (output : List ℕ) × IsOutput first input output × TookPart old new output

-- The status fits the input and what the words ask for. The output's sink had taken `old`
-- before and has taken `new` after, and `told` says of a line that the note has it.
pub record Serves (asked : AskedValue) (input : List ℕ) (status : ℕ) (old new : Option (List ℕ))
    (told : List ℕ → Type 0) : Type 0 where
  -- the source is asked for at most one byte more than an input may have
  pub within : length input ≤ most_input + 1
  pub too_long : (status ≡ exit.too_long) ↔ (most_input < length input)
  -- what the output's sink has taken
  pub written : status ≡ exit.done → WroteWhole asked.first input old new
  pub written_in_part : status ≡ exit.write_fault → WrotePart asked.first input old new
  -- the line that refuses the input is on the note
  pub refused : status ≡ exit.refused → IsSome (refusal input)
  pub told_cause : status ≡ exit.refused → IfSome (refusal input) told
  -- the script has too much, and the note says for how many moments
  pub too_many : status ≡ exit.too_many → IsStopped asked input
  pub told_most : status ≡ exit.too_many → told (too_many_line asked.most)

-- the same facts as in `Serves`, by cases on the result
abbrev pub Performed : AskedValue → List ℕ → Option (List ℕ) → Option (List ℕ)
    → Result (Unit {0}) NotDone → Type 0
Performed asked input old new (Ok _) = WroteWhole asked.first input old new
Performed asked input old new (Err WriteFault) = WrotePart asked.first input old new
Performed asked input old new (Err (Refused line)) = refusal input ≡ Some line.items
Performed asked input old new (Err (TooMany line)) =
    (line.items ≡ too_many_line asked.most) × IsStopped asked input
Performed asked input old new (Err _) = Unit {0}

-- the sink took the line, or its count of faults rose and it took a prefix of the line
abbrev pub Told : ℕ → ℕ → Option (List ℕ) → Option (List ℕ) → List ℕ → Type 0
Told before after old new line = Appends old new line ⊎ (Rose before after × TookPart old new line)
