-- Visible bytes are neither blanks nor newlines, and digits are visible.
use Rattle.std.proofs.Common.{◌≡◌, ℕ, ◌<◌, ◌≤◌, ◌^◌, Bool, true, false, not, ◌==◌, List, [], ◌∷◌, length, Some, nat_le, refl, inl, inr, arith}
use Rattle.std.specs.Char.{is_digit, digit_value}
use Rattle.std.specs.Fmt.{digits}
use Rattle.std.specs.List.{list_all}
use Rattle.std.specs.Str.Parse.{AllDigits}
use Rattle.std.proofs.lemmas.Bool.{cases_Bool, false≢true}
use Rattle.std.proofs.lemmas.Bool.Decides.{nat_tests}
use Rattle.std.proofs.lemmas.Fmt.{digits_is_IsNumeral}
use Rattle.text_forms.specs.Numbers.{number_of}
use Rattle.text_forms.specs.Tokens.{is_inked, is_filled}
use Rattle.text_forms.specs.Words.{is_visible}

-- a list that passes one test passes a weaker one
pub all_weaker : {X : Type 0} (p q : X → Bool) → ((x : X) → p x ≡ true → q x ≡ true) → (xs : List X)
    → list_all p xs ≡ true → list_all q xs ≡ true
all_weaker p q f [] h = refl
all_weaker p q f (x ∷ xs) h = elim (cases_Bool (p x)) [
  | inl e ↦ rw (f x e) (all_weaker p q f xs (rw e at h))
  | inr e ↦ absurd (false≢true (rw e at h))
]

inked_byte : (b : ℕ) → is_visible b ≡ true → is_inked b ≡ true
inked_byte b h = grind (arith, nat_tests)

flat_byte : (b : ℕ) → is_visible b ≡ true → not (b == 10) ≡ true
flat_byte b h = grind (arith, nat_tests)

pub inked_from_visible : (w : List ℕ) → list_all is_visible w ≡ true → list_all is_inked w ≡ true
inked_from_visible w h = all_weaker is_visible is_inked inked_byte w h

pub flat_from_visible : (w : List ℕ) → list_all is_visible w ≡ true
    → list_all (λ b. not (b == 10)) w ≡ true
flat_from_visible w h = all_weaker is_visible (λ b. not (b == 10)) flat_byte w h

visible_digit : (c : ℕ) → digit_value c < 36 → is_visible c ≡ true
visible_digit c h = grind (arith, nat_tests)

visible_digits : (radix : ℕ) (ds : List ℕ) → radix ≤ 36 → AllDigits radix ds
    → list_all is_visible ds ≡ true
visible_digits radix [] le h = refl
visible_digits radix (c ∷ ds) le h =
    rw (visible_digit c (omega (arith, h.0))) (visible_digits radix ds le h.1)

digits_pass : (radix : ℕ) (ds : List ℕ) → AllDigits radix ds → list_all (λ c. is_digit c radix) ds
    ≡ true
digits_pass radix [] h = refl
digits_pass radix (c ∷ ds) h = let yes : is_digit c radix ≡ true = grind (arith, nat_tests, h.0)
    in rw yes (digits_pass radix ds h.1)

filled : (ds : List ℕ) → 0 < length ds → is_filled ds ≡ true
filled [] h = absurd (omega (arith, h))
filled (c ∷ ds) h = refl

module _ (radix n : ℕ) (low : 2 ≤ radix) (high : radix ≤ 16) (fits : n < radix ^ 64) where
  -- the printed digits of a number are read back as that number
  pub number_of-digits : (most : ℕ) → n ≤ most → number_of radix most (digits radix false n)
      ≡ Some n
  number_of-digits most le =
      let h = digits_is_IsNumeral radix false low high n fits in
      let within : nat_le n most ≡ true = grind (arith, nat_tests) in
      rw (
        filled (digits radix false n) h.0.0,
        digits_pass radix (digits radix false n) h.0.1,
        h.1,
        within,
      ) refl

  pub visible-digits : list_all is_visible (digits radix false n) ≡ true
  visible-digits = visible_digits radix (digits radix false n) (omega arith)
      (digits_is_IsNumeral radix false low high n fits).0.1
