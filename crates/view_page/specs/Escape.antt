-- Texts of a report in a page.
use Rattle.std.specs.Prelude.{ℕ, ◌+◌, ◌/◌, ◌%◌, ◌==◌, nat_le, nat_lt, not, ◌&&◌, Bool, List, [], ◌∷◌, ◌++◌, codes, if◌then◌else◌}
use Rattle.std.specs.List.{flat_map}

-- a hexadecimal digit
abbrev pub hex_digit : ℕ → ℕ
hex_digit n = if nat_lt n 10 then 48 + n else 87 + n

-- a byte that isn't printing ASCII, in four characters
abbrev pub byte_text : ℕ → List ℕ
byte_text b = codes "\\x" ++ hex_digit (b / 16) ∷ hex_digit (b % 16) ∷ []

abbrev pub is_printing : ℕ → Bool
is_printing b = nat_le 32 b && nat_le b 126

-- a byte of the text, as the page shows it
abbrev pub escaped_byte : ℕ → List ℕ
escaped_byte b =
    if b == 38 then codes "&amp;"
    else if b == 60 then codes "&lt;"
    else if b == 62 then codes "&gt;"
    else if b == 34 then codes "&quot;"
    else if is_printing b then b ∷ []
    else byte_text b

-- the text, as the page shows it
abbrev pub escaped : List ℕ → List ℕ
escaped text = flat_map escaped_byte text

-- the byte begins or ends no tag, and ends no attribute
abbrev pub is_safe : ℕ → Bool
is_safe b = not (b == 60) && (not (b == 62) && not (b == 34))
