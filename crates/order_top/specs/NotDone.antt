-- Why no rows were written: the exit status and the line on the note.
use Rattle.std.specs.Prelude.{ℕ, ◌==◌, ◌∷◌, List, [], ◌++◌, codes, Option, Some, None, Result, Ok, Err, if◌then◌else◌}
use Rattle.std.specs.Fmt.{decimal}
use Rattle.ima_io.specs.declared.whole.ReadErr.{ReadErr}
use Rattle.ima_io.specs.declared.whole.ReadErr.TheVariants as read
use Rattle.order_runs.specs.outcomes.scripts.Grammar.{script_of}
use Rattle.order_runs.specs.outcomes.scripts.ScriptValue.{ScriptValue}
use Rattle.order_runs.specs.outcomes.scripts.script_lines.Causes.{cause_text}
use Rattle.order_runs.specs.outcomes.scripts.script_lines.declared.fault.Fault.{Fault}
use Rattle.order_runs.specs.outcomes.scripts.script_lines.declared.fault.LineCause.{LineCause}
use Rattle.order_top.specs.declared.not_done.NotDone.{NotDone}
use Rattle.order_top.specs.declared.not_done.NotDone.TheVariants as not_done
use Rattle.order_top.specs.Statuses as exit

-- ---- lines

abbrev pub with_newline : List ℕ → List ℕ
with_newline text = text ++ 10 ∷ []

-- the fault as a line `line L: CAUSE`
abbrev pub bad_line : Fault LineCause → List ℕ
bad_line f =
    with_newline (codes "line " ++ decimal f.line ++ codes ": " ++ cause_text f.cause)

abbrev pub refusal_of : Result ScriptValue (Fault LineCause) → Option (List ℕ)
refusal_of (Ok s) = None
refusal_of (Err fault) = Some (bad_line fault)

-- the line that refuses an input that isn't a script
abbrev pub refusal : List ℕ → Option (List ℕ)
refusal input = refusal_of (script_of input)

-- the line for a script that has too much for this many moments
abbrev pub too_many_line : ℕ → List ℕ
too_many_line most = codes "more than " ++ decimal most ++ codes " moments\n"

-- ---- statuses

abbrev pub not_done_status : NotDone → ℕ
not_done_status not_done.Usage = exit.usage
not_done_status (not_done.Refused line) = exit.refused
not_done_status (not_done.TooMany line) = exit.too_many
not_done_status not_done.ReadFault = exit.read_fault
not_done_status not_done.WriteFault = exit.write_fault
not_done_status not_done.TooLong = exit.too_long
not_done_status not_done.OutOfMemory = exit.out_of_memory

abbrev pub status_of : Result (Unit {0}) NotDone → ℕ
status_of (Ok _) = exit.done
status_of (Err why) = not_done_status why

abbrev pub not_done_of_read : ReadErr → NotDone
not_done_of_read read.Fault = not_done.ReadFault
not_done_of_read read.TooLong = not_done.TooLong
not_done_of_read read.OutOfMemory = not_done.OutOfMemory

-- the line for a status, except for those whose line depends on the input or on the words
abbrev pub told_of : ℕ → List ℕ
told_of status =
    if status == exit.usage then with_newline (codes "usage: imakern_orders [N [FIRST]]")
    else if status == exit.read_fault then with_newline (codes "read fault")
    else if status == exit.write_fault then with_newline (codes "write fault")
    else if status == exit.too_long then with_newline (codes "input too long")
    else if status == exit.out_of_memory then with_newline (codes "out of memory")
    else []

abbrev pub not_done_line : NotDone → List ℕ
not_done_line (not_done.Refused line) = line.items
not_done_line (not_done.TooMany line) = line.items
not_done_line not_done.Usage = told_of exit.usage
not_done_line not_done.ReadFault = told_of exit.read_fault
not_done_line not_done.WriteFault = told_of exit.write_fault
not_done_line not_done.TooLong = told_of exit.too_long
not_done_line not_done.OutOfMemory = told_of exit.out_of_memory
