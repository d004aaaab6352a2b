-- The numeral of each number can be read back, and is the library's for a number that fits a type.
use Rattle.std.proofs.Common.{◌≡◌, ℕ, zero, suc, ◌+◌, ◌*◌, ◌/◌, ◌%◌, ◌^◌, ◌<◌, ◌≤◌, nat_lt, true, List, [], ◌∷◌, ◌++◌, refl, sym, ap, ◌∙◌, inl, inr, arith}
use Rattle.std.specs.Prelude.{decimal}
use Rattle.std.specs.Char.{digit_value}
use Rattle.std.specs.Str.Parse.{AllDigits, digits_value, digits_value_after}
use Rattle.std.proofs.lemmas.Bool.{cases_Bool, ltb-false, ltb-true}
use Rattle.std.proofs.lemmas.Bool.Decides.{nat_tests}
use Rattle.std.proofs.lemmas.Fmt.{decimal_digit, decimal_step_wide}
use Rattle.std.proofs.lemmas.List.Folds.{list_all-append}
use Rattle.text_forms.specs.Words.{is_clean, is_clean_byte}
use Rattle.report_events.specs.Numerals.{numeral, numeral_in}

-- ---- the library's digits

same_digits : (k n : ℕ) → n < k → n < 10 ^ 64 → numeral_in k n ≡ decimal n
same_digits zero n h fits = absurd (omega (arith, h))
same_digits (suc k) n h fits = elim (cases_Bool (nat_lt n 10)) [
  | inl e ↦ let low : n < 10 = ltb-true n 10 e in rw e (sym (decimal_digit n low))
  | inr e ↦
      let high : 10 ≤ n = ltb-false n 10 e in
      let less : n / 10 < k = omega (arith, h, high) in
      let small : n / 10 < 10 ^ 64 = omega (arith, fits) in
      rw e (ap (λ (l : List ℕ). l ++ (48 + n % 10) ∷ []) (same_digits k (n / 10) less small)
      ∙ sym (decimal_step_wide n high fits))
]

-- the digits that the library prints of a number that fits 64 bits
pub numeral_of_word : (n : ℕ) → n < 2 ^ 64 → decimal n ≡ numeral n
unfolding numeral
numeral_of_word n h = sym (same_digits (suc n) n (omega arith) (omega (arith, h)))

-- the digits that the library prints of a number that fits 128 bits
pub numeral_of_wide : (n : ℕ) → n < 2 ^ 128 → decimal n ≡ numeral n
unfolding numeral
numeral_of_wide n h = sym (same_digits (suc n) n (omega arith) (omega (arith, h)))

-- ---- the value

digit_back : (d : ℕ) → d < 10 → digit_value (48 + d) ≡ d
digit_back d h = grind (arith, nat_tests)

value_push : (n : ℕ) (ds : List ℕ) (c : ℕ)
    → digits_value_after 10 n (ds ++ c ∷ []) ≡ digits_value_after 10 n ds * 10 + digit_value c
value_push n [] c = refl
value_push n (d ∷ ds) c = value_push (n * 10 + digit_value d) ds c

value_in : (k n : ℕ) → n < k → digits_value 10 (numeral_in k n) ≡ n
value_in zero n h = absurd (omega (arith, h))
value_in (suc k) n h = elim (cases_Bool (nat_lt n 10)) [
  | inl e ↦
      let low : n < 10 = ltb-true n 10 e in
      rw e (let d = digit_back n low in omega (arith, d))
  | inr e ↦
      let high : 10 ≤ n = ltb-false n 10 e in
      let less : n / 10 < k = omega (arith, h, high) in
      let front = value_in k (n / 10) less in
      let rest : n % 10 < 10 = omega arith in
      let last = digit_back (n % 10) rest in
      rw e (value_push 0 (numeral_in k (n / 10)) (48 + n % 10) ∙ omega (arith, front, last))
]

-- a numeral is read back as its number
pub value_of_numeral : (n : ℕ) → digits_value 10 (numeral n) ≡ n
unfolding numeral
value_of_numeral n = value_in (suc n) n (omega arith)

-- numbers with the same numeral are equal
pub numeral_injective : (m n : ℕ) → numeral m ≡ numeral n → m ≡ n
numeral_injective m n e = sym (value_of_numeral m) ∙ ap (digits_value 10) e ∙ value_of_numeral n

-- ---- the digits

digits_push : (ds : List ℕ) (c : ℕ) → AllDigits 10 ds → digit_value c < 10
    → AllDigits 10 (ds ++ c ∷ [])
digits_push [] c h k = (k, tt)
digits_push (d ∷ ds) c h k = (h.0, digits_push ds c h.1 k)

digits_in : (k n : ℕ) → AllDigits 10 (numeral_in k n)
digits_in zero n = tt
digits_in (suc k) n = elim (cases_Bool (nat_lt n 10)) [
  | inl e ↦
      let low : n < 10 = ltb-true n 10 e in
      let d = digit_back n low in rw e (omega (arith, d, low), tt)
  | inr e ↦
      let rest : n % 10 < 10 = omega arith in
      let d = digit_back (n % 10) rest in
      rw e (digits_push (numeral_in k (n / 10)) (48 + n % 10) (digits_in k (n / 10))
      (omega (arith, d, rest)))
]

-- each byte of a numeral is a digit
pub digits_of_numeral : (n : ℕ) → AllDigits 10 (numeral n)
unfolding numeral
digits_of_numeral n = digits_in (suc n) n

-- ---- words

-- a byte from 48 on is neither a space nor a newline
pub high_clean : (n : ℕ) → is_clean_byte (48 + n) ≡ true
high_clean n = grind (arith, nat_tests)

clean_in : (k n : ℕ) → is_clean (numeral_in k n) ≡ true
clean_in zero n = refl
clean_in (suc k) n = elim (cases_Bool (nat_lt n 10)) [
  | inl e ↦ rw (e, high_clean n) refl
  | inr e ↦
      rw e (list_all-append is_clean_byte (numeral_in k (n / 10)) ((48 + n % 10) ∷ [])
      ∙ rw (clean_in k (n / 10), high_clean (n % 10)) refl)
]

-- a numeral is one word
pub numeral_clean : (n : ℕ) → is_clean (numeral n) ≡ true
unfolding numeral
numeral_clean n = clean_in (suc n) n
