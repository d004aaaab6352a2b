-- The limits of the program.
use Rattle.std.specs.Prelude.{ℕ}

-- the most bytes that an input may have: 4 MiB
abbrev pub most_input : ℕ
most_input = 4194304

-- the most moments that may be met if no word says otherwise
abbrev pub most_moments : ℕ
most_moments = 1000000

-- the greatest number that a word may name
abbrev pub most_named : ℕ
most_named = 10000000

-- the most first turns that a word may name
abbrev pub most_first : ℕ
most_first = 65536
