-- Sums of numbers of the code.
use Rattle.std.specs.Prelude.{ℕ, ◌+◌, min}

-- a sum of numbers of 64 bits, at most the greatest of them
abbrev pub sum_up_to : ℕ → ℕ → ℕ
sum_up_to a b = min (a + b) 18446744073709551615
