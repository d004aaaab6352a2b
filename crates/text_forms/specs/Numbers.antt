-- Numbers as digits.
use Rattle.std.specs.Prelude.{ℕ, Bool, true, not, ◌==◌, ◌&&◌, nat_le, List, [], ◌∷◌, Option, Some, None, if◌then◌else◌}
use Rattle.std.specs.Char.{is_digit}
use Rattle.std.specs.List.{list_all}
use Rattle.std.specs.Str.Parse.{digits_value}
use Rattle.text_forms.specs.Tokens.{is_filled}

-- the text consists of digits in the radix, at least one, with letters in either case
abbrev pub is_numeral : ℕ → List ℕ → Bool
is_numeral radix digits = is_filled digits && list_all (λ c. is_digit c radix) digits

-- the value of the digits, if it is at most `most`; leading zeros are allowed
abbrev pub number_of : ℕ → ℕ → List ℕ → Option ℕ
number_of radix most digits =
    if is_numeral radix digits && nat_le (digits_value radix digits) most
    then Some (digits_value radix digits) else None

-- no leading zero precedes another digit
abbrev pub is_short : List ℕ → Bool
is_short [] = true
is_short (c ∷ []) = true
is_short (c ∷ d ∷ more) = not (c == 48)

-- the text has the form of a number without leading zeros, whatever its value
abbrev pub is_short_numeral : ℕ → List ℕ → Bool
is_short_numeral radix digits = is_short digits && is_numeral radix digits

-- the value of digits without leading zeros, if it is at most `most`
abbrev pub short_number_of : ℕ → ℕ → List ℕ → Option ℕ
short_number_of radix most digits = if is_short digits then number_of radix most digits else None
