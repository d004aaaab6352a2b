-- The outcome of a run, by the state that it leaves: a text that tells which entries are in the
-- measurement list, and what every call was told. Neither the places of entries nor those of events
-- are in it, so that runs whose steps fell otherwise can have the same outcome.
use Rattle.std.specs.Prelude.{ℕ, ◌+◌, Bool, true, false, not, List, [], ◌∷◌, ◌++◌, length, fold, codes, Option, Some, None, if◌then◌else◌}
use Rattle.std.specs.List.{concat, join_with_byte}
use Rattle.report_text.specs.Numerals.{numeral}
use Rattle.report_text.specs.Report.{entry_words, reply_words}
use Rattle.report_text.specs.Texts.{line_text}
use Rattle.report_text.specs.model.EndedValue.{EndedTaskValue, EndedValue}
use Rattle.report_text.specs.model.events.EndedInode.{EndedInodeValue}
use Rattle.report_text.specs.model.events.labels.Verdicts.{cause_word}
use Rattle.report_text.specs.model.events.labels.declared.verdict.Verdict.{Verdict}
use Rattle.report_text.specs.model.events.labels.declared.verdict.Verdict.TheVariants.{Pass, Deny}
use Rattle.report_text.specs.model.events.templates.declared.entry.Entry.{Entry}
use Rattle.report_text.specs.model.steps.declared.reply.Reply.{Reply}
use Rattle.order_outcomes.specs.Calls.{listed_of, verdict_of}
use Rattle.order_outcomes.specs.Sets.{with_text}
use Rattle.order_outcomes.specs.declared.lines.Kind.{Kind}
use Rattle.order_outcomes.specs.declared.lines.Kind.TheVariants.{Measurements, Violations}

-- ---- the list

-- the line of the entry in `ascii_runtime_measurements`
abbrev pub entry_line : Entry → List ℕ
entry_line e = line_text (entry_words e)

abbrev pub is_of : Kind → Entry → Bool
is_of Measurements e = not e.violation
is_of Violations e = e.violation

abbrev pub with_line : Kind → List (List ℕ) → Entry → List (List ℕ)
with_line kind lines e = if is_of kind e then with_text (entry_line e) lines else lines

-- the lines of the entries of this kind, as a set
abbrev pub lines_of : Kind → List Entry → List (List ℕ)
lines_of kind list = fold (with_line kind) [] list

abbrev pub kind_text : Kind → List ℕ
kind_text Measurements = codes "measured "
kind_text Violations = codes "violations "

-- how many lines there are, and the lines
abbrev pub lines_text : Kind → List (List ℕ) → List ℕ
lines_text kind lines = kind_text kind ++ numeral (length lines) ++ codes "\n" ++ concat lines

-- ---- calls

abbrev pub verdict_text : Option Verdict → List ℕ
verdict_text None = []
verdict_text (Some Pass) = codes " pass"
verdict_text (Some (Deny cause)) = codes " deny " ++ cause_word cause

abbrev pub listed_text : Option Bool → List ℕ
listed_text None = []
listed_text (Some true) = codes " listed"
listed_text (Some false) = codes " unlisted"

-- the number of the call, its reply, the verdict of its grant, and of a read whether the list had
-- the content
abbrev pub call_text : List Entry → List EndedInodeValue → ℕ → ℕ → Reply → List ℕ
call_text list inodes task call r =
    numeral call ++ codes " " ++ join_with_byte 32 (reply_words r)
    ++ verdict_text (verdict_of task call inodes)
    ++ listed_text (listed_of list task call inodes) ++ codes "\n"

abbrev pub calls_text : List Entry → List EndedInodeValue → ℕ → ℕ → List Reply → List ℕ
calls_text list inodes task call [] = []
calls_text list inodes task call (r ∷ rs) =
    call_text list inodes task call r ++ calls_text list inodes task (call + 1) rs

-- ---- tasks

abbrev pub done_text : Bool → List ℕ
done_text done = if done then codes " done\n" else codes " unfinished\n"

-- whether all calls of the task are answered, and what each answered one was told
abbrev pub task_text : List Entry → List EndedInodeValue → ℕ → EndedTaskValue → List ℕ
task_text list inodes task t =
    codes "task " ++ numeral task ++ done_text t.done ++ calls_text list inodes task 0 t.replies

abbrev pub tasks_text : List Entry → List EndedInodeValue → ℕ → List EndedTaskValue → List ℕ
tasks_text list inodes task [] = []
tasks_text list inodes task (t ∷ ts) =
    task_text list inodes task t ++ tasks_text list inodes (task + 1) ts

-- ---- the run

abbrev pub outcome_of : EndedValue → List ℕ
outcome_of e =
    lines_text Measurements (lines_of Measurements e.list)
    ++ lines_text Violations (lines_of Violations e.list)
    ++ tasks_text e.list e.inodes 0 e.tasks
