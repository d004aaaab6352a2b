-- The line that names the first fault of a text.
use Rattle.std.specs.Prelude.{ℕ, List, ◌++◌, codes, Option, Some, None, Result, Ok, Err}
use Rattle.std.specs.Fmt.{decimal}
use Rattle.script_words.specs.Causes.{cause_text}
use Rattle.script_words.specs.declared.fault.Fault.{Fault}
use Rattle.script_words.specs.declared.fault.LineCause.{LineCause}
use Rattle.ima_top.specs.Line.{with_newline}

-- the fault as a line `line L: CAUSE`, if `text` prints the cause
abbrev pub bad_line_by : {C : Type 0} → (C → List ℕ) → Fault C → List ℕ
bad_line_by text f =
    with_newline (codes "line " ++ decimal f.line ++ codes ": " ++ text f.cause)

-- the line that refuses a text outside its grammar
abbrev pub refusal_by : {X C : Type 0} → (C → List ℕ) → Result X (Fault C) → Option (List ℕ)
refusal_by text (Ok x) = None
refusal_by text (Err fault) = Some (bad_line_by text fault)

-- the fault of a script, of a list text or of another text without causes of its own
abbrev pub bad_line : Fault LineCause → List ℕ
bad_line f = bad_line_by cause_text f

-- the line that refuses such a text outside its grammar
abbrev pub refusal_of : {X : Type 0} → Result X (Fault LineCause) → Option (List ℕ)
refusal_of result = refusal_by cause_text result
