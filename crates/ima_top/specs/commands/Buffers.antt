-- The command `buffers`: the run that measures the buffers of a text into one list, printed; or the
-- text's first bad line and the cause.
use Rattle.std.specs.Prelude.{◌≡◌, ◌≤◌, ℕ, List, length, Option, IsOkAnd}
use Rattle.buffer_measure.specs.Alone.{run_alone}
use Rattle.buffer_measure.specs.Print.{printed}
use Rattle.buffer_measure.specs.Run.{IsRunOf, RunValue}
use Rattle.buffer_measure.specs.texts.Grammar.{buffers_of}
use Rattle.buffer_measure.specs.texts.Text.{BufferValue}
use Rattle.ima_top.specs.commands.BadLine.{refusal_of}

-- the line that refuses an input that isn't a text of buffers
unfoldable pub buffers_refusal : List ℕ → Option (List ℕ)
buffers_refusal input = refusal_of (buffers_of input)

-- the bytes are the print of a run of the text
pub record IsPrintedRun (t : BufferValue) (output : List ℕ) : Type 0 where
  pub run : RunValue
  pub is_run : IsRunOf t run
  pub text : output ≡ printed run
  -- with at most one caller the run is a function of the text
  pub alone : length t.callers ≤ 1 → run ≡ run_alone t t.callers
  -- each run of the text that is printed alike is this run
  pub only : (other : RunValue) → IsRunOf t other → printed other ≡ output → other ≡ run

-- the output for a text of buffers is the print of its run
unfoldable pub IsBuffersOutput : List ℕ → List ℕ → Type 0
IsBuffersOutput input output = IsOkAnd (buffers_of input) (λ t. IsPrintedRun t output)
