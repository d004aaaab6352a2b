-- The output of a run of buffers: lines of words, and their bytes.
use Rattle.std.specs.Prelude.{◌≡◌, ℕ, ◌+◌, List, [], ◌∷◌, ◌++◌, length, codes, map}
use Rattle.report_text.specs.Numerals.{numeral}
use Rattle.report_text.specs.Report.{entry_words, pcr_lines}
use Rattle.report_text.specs.Words.{Line}
use Rattle.script_text.specs.events.forms.Words.{text_of}
use Rattle.measure_book.specs.registers.declared.banks.Banks.{Banks}
use Rattle.script_text.specs.steps.templates.declared.entry.Entry.{Entry}
use Rattle.buffer_text.specs.Forms.{IsBufferText}
use Rattle.buffer_measure.specs.Run.{IsRunOf, RunValue}
use Rattle.buffer_text.specs.Text.{BufferValue}
use Rattle.buffer_measure.specs.declared.answer.Answer.{Answer}
use Rattle.buffer_measure.specs.declared.answer.Answer.TheVariants.{Skipped, Added, Already}

abbrev pub answer_words : Answer → Line
answer_words Skipped = codes "skipped" ∷ []
answer_words (Added place) = codes "added" ∷ numeral place ∷ []
answer_words (Already place) = codes "already" ∷ numeral place ∷ []

-- each buffer's number, counted from 0, and its answer
abbrev pub answer_lines : ℕ → List Answer → List Line
answer_lines number [] = []
answer_lines number (a ∷ later) =
    (numeral number ∷ answer_words a) ∷ answer_lines (number + 1) later

abbrev pub caller_lines : ℕ → List Answer → List Line
caller_lines number answers = (codes "caller" ∷ numeral number ∷ []) ∷ answer_lines 0 answers

abbrev pub all_caller_lines : ℕ → List (List Answer) → List Line
all_caller_lines number [] = []
all_caller_lines number (answers ∷ rest) =
    caller_lines number answers ++ all_caller_lines (number + 1) rest

-- the list of a run of buffers never has a violation
abbrev pub head_lines : ℕ → List Line
head_lines entries =
    (codes "imakern" ∷ codes "buffers" ∷ codes "1" ∷ [])
    ∷ (codes "list" ∷ numeral entries ∷ codes "violations" ∷ codes "0" ∷ []) ∷ []

-- the lines after the list
abbrev pub rest_lines : List Entry → Banks → List (List Answer) → List Line
rest_lines list banks answers =
    pcr_lines list banks ++ (all_caller_lines 0 answers ++ (codes "end" ∷ []) ∷ [])

abbrev pub run_lines : RunValue → List Line
run_lines run =
    head_lines (length run.list)
    ++ (map entry_words run.list ++ rest_lines run.list run.banks run.answers)

abbrev pub printed : RunValue → List ℕ
printed run = text_of (run_lines run)

-- the output of a run determines the run, for one text
abbrev pub PrintDetermines : Type 0
PrintDetermines = (t : BufferValue) (a b : RunValue) → IsBufferText t → IsRunOf t a → IsRunOf t b
    → printed a ≡ printed b → a ≡ b
