-- A run of a text of buffers: the list, the registers, and each caller's answers.
use Rattle.std.specs.Prelude.{◌≡◌, ℕ, ◌<◌, ◌==◌, List, Some, count_by, length, slice_get, if◌then◌else◌}
use Rattle.std.specs.List.{AllByRecursion, AllZip, flat_map}
use Rattle.measure_book.specs.registers.declared.banks.Banks.{Banks}
use Rattle.measure_book.specs.Replay.{banks_of}
use Rattle.script_text.specs.steps.templates.Same.{IsDistinct}
use Rattle.script_text.specs.steps.templates.declared.entry.Entry.{Entry}
use Rattle.buffer_measure.specs.Answers.{IsAnswer, Rises, added_in}
use Rattle.buffer_entries.specs.Entries.{boot_entry}
use Rattle.buffer_text.specs.Text.{BufferValue, CallerValue}
use Rattle.buffer_entries.specs.Wanted.{wanted}
use Rattle.buffer_measure.specs.declared.answer.Answer.{Answer}

pub record RunValue : Type 0 where
  pub list : List Entry
  pub banks : Banks
  -- for each caller its answers, in the order of its buffers
  pub answers : List (List Answer)

-- the caller has one answer for each buffer
abbrev pub AreAnswers : BufferValue → List Entry → CallerValue → List Answer → Type 0
AreAnswers t list c answers = AllZip (IsAnswer t.hash list (wanted t.rules c.cred)) c.lines answers

-- The run measures the text's buffers into one list. Its callers' additions may come in any order.
pub record IsRunOf (t : BufferValue) (run : RunValue) : Type 0 where
  pub boot : slice_get run.list 0 ≡ Some (boot_entry t.hash)
  pub answered : AllZip (AreAnswers t run.list) t.callers run.answers
  -- each place above 0 is added by exactly one answer
  pub once : (place : ℕ) → place < length run.list
      → count_by (λ p. p == place) (flat_map added_in run.answers) ≡ (if place == 0 then 0 else 1)
  pub rise : AllByRecursion Rises run.answers
  pub distinct : IsDistinct run.list
  pub banks : run.banks ≡ banks_of run.list
