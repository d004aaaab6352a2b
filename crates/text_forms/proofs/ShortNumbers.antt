-- Numbers without leading zeros: a printed number is read back, and the form doesn't depend on the
-- value.
use Rattle.std.proofs.Common.{◌≡◌, ℕ, zero, suc, ◌+◌, ◌*◌, ◌/◌, ◌%◌, ◌^◌, ◌<◌, ◌≤◌, Bool, true, false, not, ◌==◌, ◌&&◌, List, [], ◌∷◌, Some, None, nat_le, nat_lt, if◌then◌else◌, refl, inl, inr, arith}
use Rattle.std.specs.Fmt.{digits, digits_onto, digit_glyph, decimal}
use Rattle.std.specs.Str.Parse.{digits_value}
use Rattle.std.proofs.lemmas.Bool.{cases_Bool}
use Rattle.std.proofs.lemmas.Bool.Decides.{nat_tests}
use Rattle.std.proofs.Math.Nat.{div-add-mod', div-le_self, div-lt_iff_lt-mul, pow-zero, pow-suc}
use Rattle.text_forms.specs.Numbers.{is_short, is_short_numeral, short_number_of}
use Rattle.text_forms.proofs.Visible.{number_of-digits}

-- the number of a text is its value, if the text has the form and the value is within the limit
pub short_number_by_value : (radix most : ℕ) (text : List ℕ)
    → short_number_of radix most text
    ≡ (if is_short_numeral radix text && nat_le (digits_value radix text) most
    then Some (digits_value radix text) else None)
short_number_by_value radix most text = elim (cases_Bool (is_short text)) [
  | inl e ↦ rw e refl
  | inr e ↦ rw e refl
]

-- the list begins with a digit other than zero
abbrev leads : List ℕ → Bool
leads [] = false
leads (c ∷ cs) = not (c == 48)

short_from_leads : (ds : List ℕ) → leads ds ≡ true → is_short ds ≡ true
short_from_leads [] h = refl
short_from_leads (c ∷ []) h = refl
short_from_leads (c ∷ d ∷ ds) h = h

glyph_leads : (d : ℕ) (acc : List ℕ) → 0 < d → leads (digit_glyph false d ∷ acc) ≡ true
glyph_leads d acc h = elim (cases_Bool (nat_lt d 10)) [
  | inl e ↦ rw e (grind (arith, nat_tests))
  | inr e ↦ rw e (grind (arith, nat_tests))
]

module _ (radix : ℕ) (low : 2 ≤ radix) (high : radix ≤ 16) where
  some : 0 < radix
  some = omega arith

  -- a number with only one digit is that digit
  one_digit : (n : ℕ) → (n / radix == 0) ≡ true → n % radix ≡ n
  one_digit n last =
      let none : n / radix ≡ 0 = grind (arith, nat_tests) in
      let parts = div-add-mod' n radix in
      let parts' : 0 * radix + n % radix ≡ n = rw none at parts in
      omega arith

  leads_onto : (k n : ℕ) (acc : List ℕ) → 0 < n → n < radix ^ k
      → leads (digits_onto k radix false n acc) ≡ true
  leads_onto zero n acc positive fits = absurd (omega (arith, pow-zero radix))
  leads_onto (suc k) n acc positive fits =
      elim (cases_Bool (n / radix == 0)) [
        | inl last ↦ rw last (glyph_leads (n % radix) acc (omega (arith, one_digit n last)))
        | inr more ↦
            let positive' : 0 < n / radix = grind (arith, nat_tests) in
            let fits' : n / radix < radix ^ k =
            (div-lt_iff_lt-mul some).1 (omega (arith, pow-suc radix k)) in
            rw more (leads_onto k (n / radix) (digit_glyph false (n % radix) ∷ acc) positive' fits')
      ]

  short_onto : (k n : ℕ) → n < radix ^ suc k → is_short (digits_onto (suc k) radix false n [])
      ≡ true
  short_onto k zero fits =
      let parts = div-add-mod' 0 radix in
      let last : (0 / radix == 0) ≡ true = grind (arith, nat_tests, div-le_self 0 radix) in
      rw last refl
  short_onto k (suc n) fits = short_from_leads (digits_onto (suc k) radix false (suc n) [])
      (leads_onto (suc k) (suc n) [] (omega arith) fits)

  short_digits : (n : ℕ) → n < radix ^ 64 → is_short (digits radix false n) ≡ true
  unfolding digits
  short_digits n fits = short_onto 63 n fits

  -- the printed digits of a number are read back as that number
  pub short_number_of-digits : (most n : ℕ) → n < radix ^ 64 → n ≤ most
      → short_number_of radix most (digits radix false n) ≡ Some n
  short_number_of-digits most n fits le =
      rw (short_digits n fits) (number_of-digits radix n low high fits most le)

-- the printed decimal digits of a number are read back as that number
pub short_number_of-decimal : (most n : ℕ) → n < 2 ^ 64 → n ≤ most
    → short_number_of 10 most (decimal n) ≡ Some n
short_number_of-decimal most n fits le = short_number_of-digits 10 (omega arith) (omega arith) most
    n (omega arith) le
