-- The limit on inputs.
use Rattle.std.specs.Prelude.{ℕ}

-- the most bytes that an input may have: 4 MiB
abbrev pub most_input : ℕ
most_input = 4194304
