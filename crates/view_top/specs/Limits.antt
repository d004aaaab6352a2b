-- The limit on inputs.
use Rattle.std.specs.Prelude.{ℕ}

-- the most bytes that an input may have: 128 MiB
abbrev pub most_input : ℕ
most_input = 134217728
