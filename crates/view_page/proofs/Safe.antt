-- A text as the page shows it has no byte of a tag or of an attribute's end.
use Rattle.std.proofs.Common.{◌≡◌, ℕ, ◌+◌, ◌/◌, ◌%◌, ◌==◌, ◌<◌, Bool, true, false, cond, List, [], ◌∷◌, refl, arith, inl, inr}
use Rattle.std.specs.Prelude.{nat_lt}
use Rattle.std.specs.List.{list_all}
use Rattle.std.proofs.lemmas.Bool.{cases_Bool, ltb-true, ne_eqb}
use Rattle.std.proofs.lemmas.List.Folds.{list_all-append}
use Rattle.view_page.specs.Escape.{byte_text, escaped, escaped_byte, hex_digit, is_printing, is_safe}

no_number : (a b : ℕ) → b < a → (a == b) ≡ false
no_number a b h = ne_eqb a b (λ (e : a ≡ b). omega (arith, h, e))

too_small : (n b : ℕ) → n < 10 → 58 < b + 1 → ((48 + n) == b) ≡ false
too_small n b h k = ne_eqb (48 + n) b (λ (e : 48 + n ≡ b). omega (arith, h, k, e))

digit_by : (b : Bool) (n : ℕ) → (b ≡ true → n < 10)
    → is_safe (cond b (48 + n) (87 + n)) ≡ true
digit_by true n h =
    let small : n < 10 = h refl in
    rw (
      too_small n 60 small (omega arith),
      too_small n 62 small (omega arith),
      no_number (48 + n) 34 (omega arith),
    ) refl
digit_by false n h =
    rw (
      no_number (87 + n) 60 (omega arith),
      no_number (87 + n) 62 (omega arith),
      no_number (87 + n) 34 (omega arith),
    ) refl

-- a decimal digit
pub decimal_safe : (n : ℕ) → n < 10 → is_safe (48 + n) ≡ true
decimal_safe n h = digit_by true n (λ e. h)

digit_safe : (n : ℕ) → is_safe (hex_digit n) ≡ true
digit_safe n = digit_by (nat_lt n 10) n (ltb-true n 10)

byte_safe : (b : ℕ) → list_all is_safe (byte_text b) ≡ true
byte_safe b = rw (digit_safe (b / 16), digit_safe (b % 16)) refl

rest_safe : (b : ℕ) (printing : Bool) → (b == 60) ≡ false → (b == 62) ≡ false
    → (b == 34) ≡ false → list_all is_safe (cond printing (b ∷ []) (byte_text b)) ≡ true
rest_safe b true less greater quote = rw (less, greater, quote) refl
rest_safe b false less greater quote = byte_safe b

escaped_byte_safe : (b : ℕ) → list_all is_safe (escaped_byte b) ≡ true
escaped_byte_safe b =
    elim (cases_Bool (b == 38)) [
      | inl t ↦ rw t refl
      | inr and ↦ elim (cases_Bool (b == 60)) [
        | inl t ↦ rw (and, t) refl
        | inr less ↦ elim (cases_Bool (b == 62)) [
          | inl t ↦ rw (and, less, t) refl
          | inr greater ↦ elim (cases_Bool (b == 34)) [
            | inl t ↦ rw (and, less, greater, t) refl
            | inr quote ↦ rw (and, less, greater, quote)
                (rest_safe b (is_printing b) less greater quote)
          ]
        ]
      ]
    ]

pub texts_stay_texts : (text : List ℕ) → list_all is_safe (escaped text) ≡ true
texts_stay_texts [] = refl
texts_stay_texts (b ∷ text) =
    rw (
      list_all-append is_safe (escaped_byte b) (escaped text),
      escaped_byte_safe b,
      texts_stay_texts text,
    ) refl
