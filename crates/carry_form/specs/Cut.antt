-- Bytes taken from the front.
use Rattle.std.specs.Prelude.{ℕ, nat_le, Bool, List, length, take, drop, Option, Some, None, option_and_then, if◌then◌else◌}
use Rattle.std.specs.List.{position_or_len}
use Rattle.byteorder.specs.Endian.{little_number}

-- the next step, which is taken if there is a value
infixl 10 ◌>>=◌
abbrev pub ◌>>=◌ : {A B : Type 0} → Option A → (A → Option B) → Option B
o >>= f = option_and_then f o

-- the first n bytes and those after them, if there are as many
abbrev pub cut_at : ℕ → List ℕ → Option (List ℕ × List ℕ)
cut_at n bytes = if nat_le n (length bytes) then Some (take n bytes, drop n bytes) else None

-- the bytes that stand after their length in 4 bytes, little-endian, and the bytes after them
abbrev pub sized_in : List ℕ → Option (List ℕ × List ℕ)
sized_in bytes = cut_at 4 bytes >>= λ p. cut_at (little_number 4 p.0) p.1

-- the first byte that passes the test and those after it
abbrev pub from_first : (ℕ → Bool) → List ℕ → List ℕ
from_first p bytes = drop (position_or_len p bytes) bytes
