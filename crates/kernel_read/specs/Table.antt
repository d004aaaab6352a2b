-- The table of the kernel's reads: one line for each answered call by which the kernel reads a
-- module or a firmware file.
use Rattle.std.specs.Prelude.{ℕ, ◌+◌, List, [], ◌∷◌, ◌++◌, length, codes, Option, Some, None, slice_get}
use Rattle.std.specs.List.{join_with_byte}
use Rattle.report_text.specs.Report.{reply_words}
use Rattle.report_text.specs.Words.{Line, or_dash, placed_words}
use Rattle.script_text.specs.events.forms.Words.{text_of}
use Rattle.script_text.specs.ScriptValue.{ScriptValue}
use Rattle.script_text.specs.steps.Steps.{course_of, purpose_of}
use Rattle.script_text.specs.steps.declared.call.Call.{Call}
use Rattle.script_text.specs.steps.declared.reply.Reply.{Reply}
use Rattle.script_text.specs.steps.policy.Accesses.{func_of_purpose}
use Rattle.script_text.specs.steps.policy.ValueTexts.{func_word}
use Rattle.script_text.specs.steps.policy.declared.rule.Func.{Func}
use Rattle.script_text.specs.steps.templates.declared.entry.Placed.{Placed}
use Rattle.script_text.specs.events.EndedInode.{EndedInodeValue}
use Rattle.run_laws.specs.kernel_reads.Reads.{place_of_call, read_by}
use Rattle.kernel_read.specs.Places.{calls_in}
use Rattle.run_laws.specs.model.EndedValue.{EndedTaskValue, EndedValue}
use Rattle.report_text.specs.Numerals.{numeral}

-- the hook that the call raises
abbrev pub func_raised : Call → Func
func_raised c = func_of_purpose (purpose_of (course_of c))

-- `load TASK.CALL FUNC PATH PLACE REPLY`: the place that the call's grant names, or `-` if none
-- does, and the call's reply
abbrev pub load_line : ℕ → ℕ → Func → List ℕ → Option Placed → Reply → Line
load_line n k func path placed r =
    codes "load" ∷ join_with_byte 46 (numeral n ∷ numeral k ∷ [])
    ∷ func_word func ∷ path ∷ or_dash (placed_words placed) ++ reply_words r

-- the line of call k of task n, given the inode that it reads
abbrev pub inode_line : ℕ → ℕ → Call → Reply → Option EndedInodeValue → List Line
inode_line n k c r None = []
inode_line n k c r (Some inode) =
    load_line n k (func_raised c) inode.path (place_of_call n k inode.journal) r ∷ []

-- a call that isn't a read by the kernel has no line
abbrev pub call_line : List EndedInodeValue → ℕ → ℕ → Call → Reply → Option ℕ → List Line
call_line inodes n k c r None = []
call_line inodes n k c r (Some i) = inode_line n k c r (slice_get inodes i)

-- the lines of the answered calls of task n, from call k on
abbrev pub call_lines : List EndedInodeValue → ℕ → ℕ → List Call → List Reply → List Line
call_lines inodes n k [] rs = []
call_lines inodes n k (c ∷ cs) [] = []
call_lines inodes n k (c ∷ cs) (r ∷ rs) =
    call_line inodes n k c r (read_by c) ++ call_lines inodes n (k + 1) cs rs

-- the lines of the tasks, from task n on
abbrev pub task_lines : List EndedInodeValue → ℕ → List (List Call) → List EndedTaskValue
    → List Line
task_lines inodes n [] ts = []
task_lines inodes n (cs ∷ tasks) [] = []
task_lines inodes n (cs ∷ tasks) (t ∷ ts) =
    call_lines inodes n 0 cs t.replies ++ task_lines inodes (n + 1) tasks ts

-- the calls of the script's tasks
abbrev pub calls_of : ScriptValue → List (List Call)
calls_of s = calls_in s.tasks

-- the lines of a run that ends so, of tasks with these calls
abbrev pub loads_of : List (List Call) → EndedValue → List Line
loads_of tasks e = task_lines e.inodes 0 tasks e.tasks

-- the table: how many lines, the lines, and `end`
abbrev pub table_lines : List Line → List Line
table_lines lines = (codes "loads" ∷ numeral (length lines) ∷ []) ∷ lines ++ (codes "end" ∷ []) ∷ []

-- the text of the table
abbrev pub loads_text : List (List Call) → EndedValue → List ℕ
loads_text tasks e = text_of (table_lines (loads_of tasks e))
