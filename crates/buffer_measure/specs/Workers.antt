-- The constants of the list that the callers share, and the callers before and after they run.
use Rattle.std.specs.Prelude.{◌≡◌, ℕ, ◌+◌, ◌<◌, List, length, map, Option, Some, IfSome, slice_get, slice_index_or}
use Rattle.report_text.specs.model.growing.Shown.{Grown, ListName, Passed, fresh, no_name}
use Rattle.script_text.specs.steps.hashes.declared.algo.Algo.{Algo}
use Rattle.script_text.specs.steps.policy.RuleValue.{RuleValue}
use Rattle.script_text.specs.steps.templates.declared.entry.Entry.{Entry}
use Rattle.buffer_text.specs.Draft.{no_buffers}
use Rattle.buffer_entries.specs.Entries.{boot_entry}
use Rattle.buffer_text.specs.Forms.{IsBufferText}
use Rattle.buffer_text.specs.Text.{BufferValue, CallerValue}
use Rattle.buffer_measure.specs.Answered.{HaveAnswers}
use Rattle.buffer_entries.specs.Wanted.{wanted}
use Rattle.buffer_measure.specs.declared.answer.Answer.{Answer}
use Rattle.buffer_measure.specs.declared.workers.Worker.{Worker}

pub record Constants : Type 0 where
  pub name : ListName
  pub text : BufferValue

abbrev pub no_constants : Constants
no_constants = record { name = no_name; text = no_buffers }

-- the list of the text's callers, which begins with the boot aggregate
pub record IsBookOf (k : Constants) (book : Grown Entry) : Type 0 where
  pub name : book.name ≡ k.name
  pub callers : book.callers ≡ length k.text.callers + 1
  pub boot : slice_get book.list 0 ≡ Some (boot_entry k.text.hash)

-- what the callers share of the text: the algorithm of the digests and the rules
pub record IsShared (k : Constants) (algo : Algo) (rules : List RuleValue) : Type 0 where
  pub kept : IsBufferText k.text
  pub algo_is : algo ≡ k.text.hash
  pub rules_are : rules ≡ k.text.rules

abbrev pub pass_of : Worker → Passed Entry
pass_of w = w.pass

abbrev pub answers_in : Worker → Option (List Answer)
answers_in w = w.answers

abbrev pub caller_of : Worker → CallerValue
caller_of w = record { cred = w.cred; lines = w.lines.items }

-- the caller of this number has its buffers, and a fresh pass of the list, whose number is one more
-- than the caller's
pub record IsReady (k : Constants) (i : ℕ) (w : Worker) : Type 0 where
  pub caller : slice_get k.text.callers i ≡ Some (caller_of w)
  pub pass : w.pass ≡ fresh k.name (i + 1)

pub record AreReady (k : Constants) (workers : List Worker) : Type 0 where
  pub even : length workers ≡ length k.text.callers
  pub each : (i : ℕ) (d : Worker) → i < length workers
      → IsReady k i (slice_index_or workers i d)

-- the caller of this number has run, and has its answers unless memory ran out
pub record IsDone (k : Constants) (i : ℕ) (w : Worker) : Type 0 where
  pub name : w.pass.name ≡ k.name
  pub number : w.pass.number ≡ i + 1
  pub answered : (c : CallerValue) → slice_get k.text.callers i ≡ Some c
      → IfSome w.answers (HaveAnswers k.text.hash (wanted k.text.rules c.cred) c.lines w.pass)

pub record AreDone (k : Constants) (workers : List Worker) : Type 0 where
  pub even : length workers ≡ length k.text.callers
  pub each : (i : ℕ) (d : Worker) → i < length workers → IsDone k i (slice_index_or workers i d)

-- the list of these callers, and the callers before they run
pub record HasStarted (algo : Algo) (callers : List CallerValue) (book : Grown Entry)
    (workers : List Worker) : Type 0 where
  pub list : slice_get book.list 0 ≡ Some (boot_entry algo)
  pub count : book.callers ≡ length callers + 1
  pub callers_are : map caller_of workers ≡ callers
  pub passes : (i : ℕ) (d : Worker) → i < length workers
      → (slice_index_or workers i d).pass ≡ fresh book.name (i + 1)
