-- The digits of a number one by one, and the proof that a printed number is read back.
use Rattle.std.proofs.Common.{◌≡◌, ℕ, ◌+◌, ◌*◌, ◌<◌, ◌≤◌, Bool, true, false, cond, ◌&&◌, List, length, get_or, take, Some, None, refl, sym, arith, nat_le}
use Rattle.std.specs.Char.{is_digit, digit_value}
use Rattle.std.specs.List.{list_all}
use Rattle.std.specs.Str.Parse.{digits_value}
use Rattle.std.proofs.lemmas.Bool.Decides.{nat_tests}
use Rattle.std.proofs.lemmas.Int.Digits.{digits_value_more}
use Rattle.std.proofs.lemmas.List.Folds.{list_all_more}
use Rattle.std.proofs.lemmas.Str.Parse.{digits_value-take-le}
use Rattle.text_forms.specs.Numbers.{number_of, is_numeral}

none_above : (b : Bool) (v most : ℕ) → most < v → cond (b && nat_le v most) (Some v) None ≡ None
none_above true v most h = let no : nat_le v most ≡ false = grind (arith, nat_tests) in rw no refl
none_above false v most h = refl

-- digits whose first few already exceed the limit give no number
pub number_of-above : (radix most : ℕ) (ds : List ℕ) (i value digit : ℕ) → 1 ≤ radix → i < length ds
    → value ≡ digits_value radix (take i ds) → digit ≡ digit_value (get_or ds i 0)
    → most < value * radix + digit → None ≡ number_of radix most ds
number_of-above radix most ds i value digit low at v d above =
    let here = digits_value_more radix ds i at in
    let grows = digits_value-take-le radix ds (i + 1) low in
    let same : digits_value radix (take (i + 1) ds) ≡ value * radix + digit = rw (v, d) here in
    sym (none_above (is_numeral radix ds) (digits_value radix ds) most (omega (arith, same, grows)))

-- the value of one more digit
pub more_digits : (radix : ℕ) (ds : List ℕ) (i value digit : ℕ) → i < length ds
    → value ≡ digits_value radix (take i ds) → list_all (λ c. is_digit c radix) (take i ds) ≡ true
    → digit_value (get_or ds i 0) < radix → digit ≡ digit_value (get_or ds i 0)
    → (value * radix + digit ≡ digits_value radix (take (i + 1) ds))
    × (list_all (λ c. is_digit c radix) (take (i + 1) ds) ≡ true)
more_digits radix ds i value digit at v all fits d =
    let yes : is_digit (get_or ds i 0) radix ≡ true = grind (arith, nat_tests) in (
      rw (v, d) (sym (digits_value_more radix ds i at)),
      rw (list_all_more (λ c. is_digit c radix) ds i 0 at, all, yes) refl,
    )
