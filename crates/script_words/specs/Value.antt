-- The values of contents and attributes.
use Rattle.std.specs.Prelude.{ℕ, ◌+◌, ◌-◌, ◌*◌, ◌==◌, ◌&&◌, nat_le, List, [], ◌∷◌, length, take, drop, codes, replicate, Option, Some, None, option_map, if◌then◌else◌}
use Rattle.std.specs.Char.{digit_value, is_digit}
use Rattle.std.specs.List.{list_all}
use Rattle.std.specs.Result.{result_ok}
use Rattle.hex.specs.Hex.{decode_of}
use Rattle.policy_text.specs.rules.Key.{starts}
use Rattle.text_forms.specs.Options.{◌>>=◌}
use Rattle.text_forms.specs.Numbers.{short_number_of}
use Rattle.text_forms.specs.Words.{is_visible}

-- a value after `hex:`, two hexadecimal digits for each byte, in either case
abbrev pub hex_value : List ℕ → Option (List ℕ)
hex_value digits = result_ok (decode_of digits)

-- a value after `txt:`, which is the visible bytes themselves
abbrev pub text_value : List ℕ → Option (List ℕ)
text_value bytes = if list_all is_visible bytes then Some bytes else None

abbrev pub byte_of : ℕ → ℕ → Option ℕ
byte_of high low = if is_digit high 16
    && is_digit low 16 then Some (16 * digit_value high + digit_value low) else None

-- the end of a value after `fill:`, a colon and two hexadecimal digits
abbrev pub end_byte : List ℕ → Option ℕ
end_byte (c ∷ high ∷ low ∷ []) = if c == 58 then byte_of high low else None
end_byte _ = None

abbrev pub fill_at : ℕ → List ℕ → List ℕ → Option (ℕ × ℕ)
fill_at most digits end = end_byte end >>= λ b. short_number_of 10 most digits >>= λ n. Some (n, b)

-- a value after `fill:`, as the number of bytes, a colon and the two digits of the byte: the count
-- and the byte
abbrev pub fill_of : ℕ → List ℕ → Option (ℕ × ℕ)
fill_of most fill =
    if nat_le 3 (length fill) then fill_at most (take (length fill - 3) fill)
    (drop (length fill - 3) fill) else None

abbrev pub fill_value : ℕ → List ℕ → Option (List ℕ)
fill_value most fill = option_map (λ f. replicate f.0 f.1) (fill_of most fill)

abbrev pub any_value : ℕ → List ℕ → Option (List ℕ)
any_value most text =
    if starts text (codes "hex:") then hex_value (drop 4 text)
    else if starts text (codes "txt:") then text_value (drop 4 text)
    else if starts text (codes "fill:") then fill_value most (drop 5 text)
    else None

-- the bytes, if there are at least `least` and at most `most`
abbrev pub within : ℕ → ℕ → List ℕ → Option (List ℕ)
within least most bytes = if nat_le least (length bytes) && nat_le (length bytes) most
    then Some bytes else None

abbrev pub value_of : ℕ → ℕ → List ℕ → Option (List ℕ)
value_of least most text = any_value most text >>= within least most

-- a value after `hex:` of at most this many bytes
abbrev pub hex_within : ℕ → List ℕ → Option (List ℕ)
hex_within most digits = hex_value digits >>= within 0 most

-- a value after `txt:` of at most this many bytes
abbrev pub text_within : ℕ → List ℕ → Option (List ℕ)
text_within most bytes = text_value bytes >>= within 0 most

-- a value after `fill:` of at most this many bytes
abbrev pub fill_within : ℕ → List ℕ → Option (List ℕ)
fill_within most fill = fill_value most fill >>= within 0 most
