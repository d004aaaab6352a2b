-- The text forms of a file system's magic number and UUID.
use Rattle.std.specs.Prelude.{ℕ, false, ◌==◌, ◌&&◌, ◌||◌, nat_le, List, [], ◌∷◌, ◌++◌, length, codes, Option, None, if◌then◌else◌}
use Rattle.std.specs.Fmt.{digits}
use Rattle.std.specs.Int.{w128, from_be_bytes, to_be_bytes}
use Rattle.std.specs.Option.{option_map}
use Rattle.text_forms.specs.Numbers.{number_of}
use Rattle.uuid.specs.Text.{hyphenated_text, lower, parsed_hyphenated}

abbrev pub without_0x : List ℕ → List ℕ
without_0x [] = []
without_0x (c ∷ []) = c ∷ []
without_0x (c ∷ d ∷ digits) = if (c == 48) && ((d == 120) || (d == 88)) then digits else c ∷ d
    ∷ digits

-- the value of an optional `0x` or `0X` and then 1 to 16 hexadecimal digits
abbrev pub magic_of : List ℕ → Option ℕ
magic_of text = if nat_le (length (without_0x text)) 16 then number_of 16 0xffff_ffff_ffff_ffff
    (without_0x text) else None

-- `0x` and lower-case digits without leading zeros
abbrev pub magic_text : ℕ → List ℕ
magic_text n = codes "0x" ++ digits 16 false n

-- the value of the hyphenated form of RFC 9562, in either case
abbrev pub uuid_of : List ℕ → Option ℕ
uuid_of text = option_map (from_be_bytes w128) (parsed_hyphenated text)

-- the hyphenated form of RFC 9562, in lower case
abbrev pub uuid_text : ℕ → List ℕ
uuid_text n = hyphenated_text lower (to_be_bytes w128 n)
