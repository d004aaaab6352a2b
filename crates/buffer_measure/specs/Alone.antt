-- A run with at most one caller: its buffers are measured one after another.
use Rattle.std.specs.Prelude.{◌≡◌, ℕ, ◌≤◌, List, [], ◌∷◌, ◌++◌, length, Option, Some, None}
use Rattle.std.specs.List.{fold}
use Rattle.script_text.specs.steps.hashes.declared.algo.Algo.{Algo}
use Rattle.measure_book.specs.Replay.{banks_of}
use Rattle.script_text.specs.steps.templates.Same.{add, placed}
use Rattle.script_text.specs.steps.templates.declared.entry.Entry.{Entry}
use Rattle.buffer_measure.specs.Answers.{answer_of}
use Rattle.buffer_entries.specs.Entries.{boot_entry, entry_for}
use Rattle.buffer_measure.specs.Run.{IsRunOf, RunValue}
use Rattle.buffer_text.specs.Text.{Buffer, BufferValue, CallerValue}
use Rattle.buffer_entries.specs.Wanted.{wanted}
use Rattle.buffer_measure.specs.declared.answer.Answer.{Answer}
use Rattle.buffer_measure.specs.declared.answer.Answer.TheVariants.{Skipped}

-- the list and the answers so far
abbrev pub Outcome : Type 0
Outcome = List Entry × List Answer

-- one more buffer: its entry is added unless the list has the same one
abbrev pub alone_next : Algo → Option ℕ → Outcome → Buffer → Outcome
alone_next hash None o line = (o.0, o.1 ++ Skipped ∷ [])
alone_next hash (Some pcr) o line =
    let e = entry_for hash pcr line in (add o.0 e, o.1 ++ answer_of (placed o.0 e) ∷ [])

abbrev pub outcome_alone : BufferValue → CallerValue → Outcome
outcome_alone t c =
    fold (alone_next t.hash (wanted t.rules c.cred)) (boot_entry t.hash ∷ [], []) c.lines

abbrev pub run_with : List Entry → List (List Answer) → RunValue
run_with list answers = record { list = list; banks = banks_of list; answers = answers }

-- the run of the first caller alone
abbrev pub run_alone : BufferValue → List CallerValue → RunValue
run_alone t [] = run_with (boot_entry t.hash ∷ []) []
run_alone t (c ∷ more) = run_with (outcome_alone t c).0 ((outcome_alone t c).1 ∷ [])

-- with at most one caller the run is a function of the text
abbrev pub RunsAlone : Type 0
RunsAlone = (t : BufferValue) (run : RunValue) → IsRunOf t run → length t.callers ≤ 1
    → run ≡ run_alone t t.callers
