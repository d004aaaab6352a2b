-- A text of buffers while its lines are read.
use Rattle.std.specs.Prelude.{ℕ, []}
use Rattle.script_text.specs.steps.hashes.declared.algo.Algo.TheVariants.{Sha256}
use Rattle.buffer_text.specs.Text.{BufferValue}

pub record Draft : Type 0 where
  pub text : BufferValue
  -- the rank of the last line
  pub at : ℕ
  -- the number of buffers of all callers
  pub lines : ℕ
  -- the total length of their bytes
  pub sum : ℕ

-- a text without rules and callers
abbrev pub no_buffers : BufferValue
no_buffers = record { hash = Sha256; rules = []; callers = []; threads = 1 }

abbrev pub start : Draft
start = record { text = no_buffers; at = 0; lines = 0; sum = 0 }
