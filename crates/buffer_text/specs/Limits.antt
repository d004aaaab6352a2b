-- The limits of a text of buffers that scripts don't have.
use Rattle.std.specs.Prelude.{ℕ}

abbrev pub most_callers : ℕ
most_callers = 64

-- the buffers of all callers together
abbrev pub most_lines : ℕ
most_lines = 32768
