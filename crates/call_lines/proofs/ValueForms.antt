-- Numbers and values are within their limits, and values are bytes.
use Rattle.std.proofs.Common.{◌≡◌, ℕ, zero, suc, ◌+◌, ◌*◌, ◌-◌, ◌<◌, ◌==◌, Bool, true, false, ◌&&◌, nat_le, nat_lt, List, [], ◌∷◌, length, take, drop, replicate, Option, Some, None, Result, Ok, Err, IfSome, if◌then◌else◌, refl, inl, inr, arith}
use Rattle.std.specs.Prelude.{codes, option_map, slice_index}
use Rattle.std.specs.Char.{digit_value, is_digit}
use Rattle.std.specs.List.{list_all}
use Rattle.std.specs.Result.{result_ok}
use Rattle.std.specs.Str.Parse.{digits_value}
use Rattle.std.proofs.lemmas.Bool.{cases_Bool}
use Rattle.std.proofs.lemmas.Bool.Decides.{nat_tests}
use Rattle.hex.specs.Hex.{IsBytes, decode_of}
use Rattle.hex.specs.declared.error.FromHexError.{FromHexError}
use Rattle.hex.proofs.HexLemmas.{decode_of-ok}
use Rattle.call_steps.specs.policy.Key.{starts}
use Rattle.text_forms.specs.Numbers.{is_numeral, is_short, number_of, short_number_of}
use Rattle.text_forms.specs.Options.{◌>>=◌}
use Rattle.text_forms.specs.Words.{is_visible}
use Rattle.text_forms.proofs.Visible.{all_weaker}
use Rattle.script_words.specs.Forms.{if_any}
use Rattle.script_words.specs.Value.{any_value, byte_of, end_byte, fill_of, fill_value, text_value, value_of, within}
use Rattle.call_lines.specs.Form.{are_bytes, is_byte}
pub use Rattle.call_lines.specs.Form.{is_value}
use Rattle.call_lines.proofs.Holding.{both_true, left_true, right_true}

-- ---- numbers

-- a number that is refused above its limit is within the limit
number_bound : (a : Bool) (v most : ℕ)
    → IfSome (if a && nat_le v most then Some v else None) (λ n. nat_le n most ≡ true)
number_bound false v most = tt
number_bound true v most = elim (cases_Bool (nat_le v most)) [
  | inl e ↦ rw e e
  | inr e ↦ rw e tt
]

-- a number within its limit is within it also if some numerals are refused
short_bound : (b : Bool) (o : Option ℕ) (most : ℕ) → IfSome o (λ n. nat_le n most ≡ true)
    → IfSome (if b then o else None) (λ n. nat_le n most ≡ true)
short_bound true o most h = h
short_bound false o most h = tt

-- a number that is read is within its limit
pub number_of_within : (radix most : ℕ) (text : List ℕ)
    → IfSome (number_of radix most text) (λ n. nat_le n most ≡ true)
number_of_within radix most text =
    number_bound (is_numeral radix text) (digits_value radix text) most

-- a number that is read without leading zeros is within its limit
pub number_within : (radix most : ℕ) (text : List ℕ)
    → IfSome (short_number_of radix most text) (λ n. nat_le n most ≡ true)
number_within radix most text =
    short_bound (is_short text) (number_of radix most text) most
    (number_of_within radix most text)

-- a number within its limit that isn't refused as 0 is at least 1
pub any_within : (most : ℕ) (o : Option ℕ) → IfSome o (λ n. nat_le n most ≡ true)
    → IfSome (if_any o) (λ n. (nat_le 1 n && nat_le n most) ≡ true)
any_within most None h = tt
any_within most (Some n) h = elim (cases_Bool (n == 0)) [
  | inl e ↦ rw e tt
  | inr e ↦ let some : nat_le 1 n ≡ true = grind (arith, nat_tests) in rw (e, some) h
]

-- ---- values

-- a list whose element at each index is a byte consists of bytes
from_index : (xs : List ℕ) → ((i : ℕ) → slice_index xs i < 256) → are_bytes xs ≡ true
from_index [] h = refl
from_index (x ∷ xs) h =
    let first : x < 256 = h 0 in
    let small : is_byte x ≡ true = grind (arith, nat_tests) in
    rw small (from_index xs (λ i. h (suc i)))

-- in a list of bytes the element at each index is a byte
to_index : (xs : List ℕ) → are_bytes xs ≡ true → (i : ℕ) → slice_index xs i < 256
to_index [] h i = omega arith
to_index (x ∷ xs) h zero =
    let small : is_byte x ≡ true = left_true (is_byte x) (are_bytes xs) h in
    grind (arith, nat_tests)
to_index (x ∷ xs) h (suc i) = to_index xs (right_true (is_byte x) (are_bytes xs) h) i

-- bytes by the test are bytes at each index
pub indexed : (xs : List ℕ) → are_bytes xs ≡ true → IsBytes xs
indexed xs h = to_index xs h

-- what hexadecimal digits decode to consists of bytes
hex_bytes : (digits : List ℕ) (r : Result (List ℕ) FromHexError) → decode_of digits ≡ r
    → IfSome (result_ok r) (λ v. are_bytes v ≡ true)
hex_bytes digits (Err e) is = tt
hex_bytes digits (Ok bytes) is = from_index bytes (decode_of-ok digits bytes is).3

-- a visible byte is a byte
visible_byte : (b : ℕ) → is_visible b ≡ true → is_byte b ≡ true
visible_byte b h = grind (arith, nat_tests)

-- a value written as text consists of bytes
text_bytes : (text : List ℕ) → IfSome (text_value text) (λ v. are_bytes v ≡ true)
text_bytes text = elim (cases_Bool (list_all is_visible text)) [
  | inl e ↦ rw e (all_weaker is_visible is_byte visible_byte text e)
  | inr e ↦ rw e tt
]

-- copies of a byte are bytes
copies : (n b : ℕ) → is_byte b ≡ true → are_bytes (replicate n b) ≡ true
copies zero b h = refl
copies (suc n) b h = rw h (copies n b h)

-- two hexadecimal digits make a byte
small : (h l : ℕ) → nat_lt h 16 ≡ true → nat_lt l 16 ≡ true → is_byte (16 * h + l) ≡ true
small h l p q = grind (arith, nat_tests)

-- what two characters say as hexadecimal digits is a byte
digits_byte : (high low : ℕ) → IfSome (byte_of high low) (λ b. is_byte b ≡ true)
digits_byte high low = elim (cases_Bool (is_digit high 16 && is_digit low 16)) [
  | inl e ↦
      let h : is_digit high 16 ≡ true = left_true (is_digit high 16) (is_digit low 16) e in
      let l : is_digit low 16 ≡ true = right_true (is_digit high 16) (is_digit low 16) e in
      rw e (small (digit_value high) (digit_value low) h l)
  | inr e ↦ rw e tt
]

-- what the end of a fill says is a byte
end_bytes : (end : List ℕ) → IfSome (end_byte end) (λ b. is_byte b ≡ true)
end_bytes (c ∷ high ∷ low ∷ []) = elim (cases_Bool (c == 58)) [
  | inl e ↦ rw e (digits_byte high low)
  | inr e ↦ rw e tt
]
end_bytes (c ∷ high ∷ low ∷ x ∷ more) = tt
end_bytes (c ∷ high ∷ []) = tt
end_bytes (c ∷ []) = tt
end_bytes [] = tt

-- a count and a byte, if there are both, make a pair whose second is a byte
filled_by : (n b : Option ℕ) → IfSome b (λ x. is_byte x ≡ true)
    → IfSome {T = ℕ × ℕ} (b >>= λ x. n >>= λ m. Some (m, x)) (λ f. is_byte f.1 ≡ true)
filled_by n None h = tt
filled_by None (Some b) h = tt
filled_by (Some n) (Some b) h = h

-- what a fill repeats is a byte
fill_byte : (most : ℕ) (fill : List ℕ) → IfSome (fill_of most fill) (λ f. is_byte f.1 ≡ true)
fill_byte most fill = elim (cases_Bool (nat_le 3 (length fill))) [
  | inl e ↦ rw e
      (filled_by (short_number_of 10 most (take (length fill - 3) fill))
      (end_byte (drop (length fill - 3) fill)) (end_bytes (drop (length fill - 3) fill)))
  | inr e ↦ rw e tt
]

-- what a fill makes consists of bytes
copied : (o : Option (ℕ × ℕ)) → IfSome o (λ f. is_byte f.1 ≡ true)
    → IfSome (option_map (λ f. replicate f.0 f.1) o) (λ v. are_bytes v ≡ true)
copied None h = tt
copied (Some f) h = copies f.0 f.1 h

-- a value written as a fill consists of bytes
fill_bytes : (most : ℕ) (fill : List ℕ) → IfSome (fill_value most fill) (λ v. are_bytes v ≡ true)
fill_bytes most fill = copied (fill_of most fill) (fill_byte most fill)

-- a value consists of bytes, however it is written
any_bytes : (most : ℕ) (text : List ℕ) → IfSome (any_value most text) (λ v. are_bytes v ≡ true)
any_bytes most text = elim (cases_Bool (starts text (codes "hex:"))) [
  | inl hex ↦ rw hex (hex_bytes (drop 4 text) (decode_of (drop 4 text)) refl)
  | inr no_hex ↦ elim (cases_Bool (starts text (codes "txt:"))) [
    | inl txt ↦ rw (no_hex, txt) (text_bytes (drop 4 text))
    | inr no_txt ↦ elim (cases_Bool (starts text (codes "fill:"))) [
      | inl fill ↦ rw (no_hex, no_txt, fill) (fill_bytes most (drop 5 text))
      | inr none ↦ rw (no_hex, no_txt, none) tt
    ]
  ]
]

-- bytes whose length is tested make a value within its limits
value_bound : (least most : ℕ) (o : Option (List ℕ)) → IfSome o (λ v. are_bytes v ≡ true)
    → IfSome (o >>= within least most) (λ v. is_value least most v ≡ true)
value_bound least most None h = tt
value_bound least most (Some v) h =
    let low = nat_le least (length v) in
    let high = nat_le (length v) most in
    elim (cases_Bool (low && high)) [
      | inl e ↦ rw e (both_true (low && high) (are_bytes v) e h)
      | inr e ↦ rw e tt
    ]

-- a value that is read is within its limits
pub value_within : (least most : ℕ) (text : List ℕ)
    → IfSome (value_of least most text) (λ v. is_value least most v ≡ true)
value_within least most text =
    value_bound least most (any_value most text) (any_bytes most text)
