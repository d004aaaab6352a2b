-- Numbers in decimal digits. For a number that fits 128 bits these are the digits that `decimal` of
-- the library gives, which has at most 64 of them.
use Rattle.std.specs.Prelude.{ℕ, zero, suc, ◌+◌, ◌/◌, ◌%◌, nat_lt, List, [], ◌∷◌, ◌++◌, if◌then◌else◌}

-- the digits of n, for at most so many digits
abbrev pub numeral_in : ℕ → ℕ → List ℕ
numeral_in zero n = []
numeral_in (suc most) n =
    if nat_lt n 10 then (48 + n) ∷ [] else numeral_in most (n / 10) ++ (48 + n % 10) ∷ []

-- the digits of n, the highest first
unfoldable pub numeral : ℕ → List ℕ
numeral n = numeral_in (suc n) n
