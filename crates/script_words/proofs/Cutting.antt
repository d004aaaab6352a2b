-- Cutting a text at its first separator.
use Rattle.std.proofs.Common.{◌≡◌, ℕ, zero, suc, ◌+◌, ◌<◌, Bool, true, false, ◌==◌, cond, List, [], ◌∷◌, length, take, drop, Option, Some, None, refl, add-one, arith}
use Rattle.std.specs.Prelude.{option_map}
use Rattle.std.specs.List.{slice_split, onto_first}
use Rattle.memchr.specs.Find.{IsFirstByte, is_byte, Passes}
use Rattle.script_words.specs.Line.{cut}

not_true : (b : Bool) → ¬ (b ≡ true) → b ≡ false
not_true true h = absurd (h refl)
not_true false h = refl

cut_nowhere : (c : ℕ) (xs : List ℕ) → ((k : ℕ) → k < length xs → ¬ Passes (is_byte c) xs k)
    → cut c xs ≡ None
cut_nowhere c [] h = refl
cut_nowhere c (x ∷ xs) h =
    let here : (x == c) ≡ false = not_true (x == c) (h 0 (omega arith)) in
    rw (here, cut_nowhere c xs (λ k lt. h (suc k) (omega arith))) refl

cut_first : (c : ℕ) (xs : List ℕ) (n : ℕ) → n < length xs
    → ((k : ℕ) → k < n → ¬ Passes (is_byte c) xs k) → Passes (is_byte c) xs n
    → cut c xs ≡ Some (take n xs, drop (suc n) xs)
cut_first c [] n lt before passes = absurd (omega (arith, lt))
cut_first c (x ∷ xs) zero lt before passes = rw passes refl
cut_first c (x ∷ xs) (suc n) lt before passes =
    let here : (x == c) ≡ false = not_true (x == c) (before 0 (omega arith)) in
    rw (
      here,
      cut_first c xs n (omega (arith, lt)) (λ k less. before (suc k) (omega (arith, less)))
          passes,
    ) refl

-- without a separator, as `memchr` reports, the text isn't cut
pub cut_missed : (c : ℕ) (xs : List ℕ) → IsFirstByte (is_byte c) xs None → cut c xs ≡ None
cut_missed c xs h = cut_nowhere c xs (λ k lt. h k (omega arith) lt)

pub cut_found : (c : ℕ) (xs : List ℕ) (n : ℕ) → IsFirstByte (is_byte c) xs (Some n) → cut c xs
    ≡ Some (take n xs, drop (n + 1) xs)
cut_found c xs n h =
    rw add-one (cut_first c xs n h.0.high (λ k lt. h.0.before k (omega arith) lt) h.1)

-- ---- the parts of a text

module _ (c : ℕ) where
  abbrev Parts : List ℕ → List (List ℕ) → Option (List ℕ × List ℕ) → Type 0
  Parts xs parts None = parts ≡ xs ∷ []
  Parts xs parts (Some p) = parts ≡ p.0 ∷ slice_split (λ b. b == c) p.1

  parts_onto : (x : ℕ) (xs : List ℕ) (parts : List (List ℕ)) (r : Option (List ℕ × List ℕ))
      → Parts xs parts r
      → Parts (x ∷ xs) (onto_first x parts) (option_map (λ (p : List ℕ × List ℕ). (x ∷ p.0, p.1)) r)
  parts_onto x xs parts None h = rw h refl
  parts_onto x xs parts (Some p) h = rw h refl

  split_step : (x : ℕ) (xs : List ℕ) (b : Bool) → Parts xs (slice_split (λ y. y == c) xs) (cut c xs)
      → Parts (x ∷ xs)
      (cond b ([] ∷ slice_split (λ y. y == c) xs) (onto_first x (slice_split (λ y. y == c) xs)))
      (cond b (Some ([], xs)) (option_map (λ (p : List ℕ × List ℕ). (x ∷ p.0, p.1)) (cut c xs)))
  split_step x xs true h = refl
  split_step x xs false h = parts_onto x xs (slice_split (λ y. y == c) xs) (cut c xs) h

  -- a text is one part, or the part before the separator followed by the parts of the text after it
  pub split_at_cut : (xs : List ℕ) → Parts xs (slice_split (λ b. b == c) xs) (cut c xs)
  split_at_cut [] = refl
  split_at_cut (x ∷ xs) = split_step x xs (x == c) (split_at_cut xs)
