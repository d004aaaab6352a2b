-- A caller's answers while its buffers are measured, and the pass by which it adds to the list.
use Rattle.std.specs.Prelude.{◌≡◌, ℕ, ◌<◌, List, length, map, ◌++◌, Option, Some, None}
use Rattle.std.specs.List.{AllByRecursion, AllZip}
use mathlib.Core.List.{IsPrefix}
use Rattle.report_text.specs.model.growing.Shown.{Passed}
use Rattle.script_text.specs.steps.hashes.declared.algo.Algo.{Algo}
use Rattle.script_text.specs.steps.templates.Same.{add, gained, placed}
use Rattle.script_text.specs.steps.templates.declared.entry.Entry.{Entry}
use Rattle.buffer_measure.specs.Answers.{IsAnswer, Rises, added_in, answer_of, named_in}
use Rattle.buffer_entries.specs.Entries.{entry_for}
use Rattle.buffer_text.specs.Text.{Buffer}
use Rattle.buffer_measure.specs.declared.answer.Answer.{Answer}
use Rattle.buffer_measure.specs.declared.answer.Answer.TheVariants.{Skipped}

-- the pass of the same list with the same number
pub record IsSamePass (old new : Passed Entry) : Type 0 where
  pub name : new.name ≡ old.name
  pub number : new.number ≡ old.number

-- the pass has met the list under its lock, and the entry was added to it or found in it
pub record IsAdded (old new : Passed Entry) (e : Entry) (a : Answer) : Type 0 where
  pub list : List Entry
  pub before : IsPrefix old.seen list
  pub answer : a ≡ answer_of (placed list e)
  pub seen : new.seen ≡ add list e
  pub mine : new.mine ≡ old.mine ++ gained (placed list e) e

-- the buffer of a caller whose buffers extend this register has this answer
abbrev pub IsAnswered : Algo → Option ℕ → Buffer → Passed Entry → Passed Entry → Answer → Type 0
IsAnswered hash None line old new a = (a ≡ Skipped) × (new ≡ old)
IsAnswered hash (Some pcr) line old new a = IsAdded old new (entry_for hash pcr line) a

-- these buffers have these answers, by the list as the pass has seen it
pub record HaveAnswers (hash : Algo) (register : Option ℕ) (lines : List Buffer)
    (pass : Passed Entry) (answers : List Answer) : Type 0 where
  pub each : AllZip (IsAnswer hash pass.seen register) lines answers
  pub rise : Rises answers
  pub below : AllByRecursion (λ place. place < length pass.seen) (named_in answers)
  pub mine : map (λ (x : ℕ × Entry). x.0) pass.mine ≡ added_in answers
