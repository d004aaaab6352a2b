-- The first index at which a test passes.
use Rattle.std.proofs.Common.{◌≡◌, ℕ, suc, ◌+◌, Bool, true, false, List, [], ◌∷◌, ◌++◌, length, Some, None, cond, refl, sym, ap, ◌∙◌, arith, append_assoc, length-append}
use Rattle.std.specs.List.{position_from}
use Rattle.std.specs.Option.{option_and_then, option_or}
use Rattle.std.specs.Prelude.{find, slice_get}
use Rattle.rule_match.proofs.Lookups.{get-seam}

module _ {X : Type 0} (p : X → Bool) where
  -- the first index among the elements of the first part, or else among those of the second
  pub position-append : (k : ℕ) (xs ys : List X) → position_from p k (xs ++ ys)
      ≡ option_or (position_from p k xs) (position_from p (k + length xs) ys)
  position-append k [] ys = let at : k ≡ k + 0 = omega arith in ap (λ (n : ℕ). position_from p n ys)
      at
  position-append k (x ∷ xs) ys = choose (p x) (position-append (k + 1) xs ys) where
    choose : (b : Bool) → position_from p (k + 1) (xs ++ ys)
        ≡ option_or (position_from p (k + 1) xs) (position_from p (k + 1 + length xs) ys)
        → cond b (Some k) (position_from p (k + 1) (xs ++ ys))
        ≡ option_or (cond b (Some k) (position_from p (k + 1) xs))
        (position_from p (k + suc (length xs)) ys)
    choose true rest = refl
    choose false rest =
        let at : k + 1 + length xs ≡ k + suc (length xs) = omega arith in
        rest ∙ ap (λ (n : ℕ). option_or (position_from p (k + 1) xs) (position_from p n ys)) at

  -- there is no such index if no element passes
  pub position-none : (k : ℕ) (xs : List X)
      → ((i : ℕ) (x : X) → slice_get xs i ≡ Some x → p x ≡ false) → position_from p k xs ≡ None
  position-none k [] none = refl
  position-none k (x ∷ xs) none =
      ap (λ (b : Bool). cond b (Some k) (position_from p (k + 1) xs)) (none 0 x refl)
      ∙ position-none (k + 1) xs (λ i y is. none (suc i) y is)

  -- the element at the first such index is the first element that passes
  pub find_at_position : (front xs : List X)
      → option_and_then (slice_get (front ++ xs)) (position_from p (length front) xs) ≡ find p xs
  find_at_position front [] = refl
  find_at_position front (x ∷ xs) = choose (p x) (more (find_at_position (front ++ x ∷ []) xs))
    where
      along : front ++ x ∷ [] ++ xs ≡ front ++ (x ∷ xs)
      along = append_assoc front (x ∷ []) xs

      at : length (front ++ x ∷ []) ≡ length front + 1
      at = omega (arith, length-append front (x ∷ []))

      more : option_and_then (slice_get (front ++ x ∷ [] ++ xs))
          (position_from p (length (front ++ x ∷ [])) xs) ≡ find p xs
          → option_and_then (slice_get (front ++ (x ∷ xs))) (position_from p (length front + 1) xs)
          ≡ find p xs
      more rest =
          ap (λ (l : List X). option_and_then (slice_get l) (position_from p (length front + 1) xs))
          (sym along)
          ∙ ap (λ (n : ℕ). option_and_then (slice_get (front ++ x ∷ [] ++ xs))
          (position_from p n xs))
          (sym at)
          ∙ rest

      here : slice_get (front ++ (x ∷ xs)) (length front) ≡ Some x
      here = get-seam front x xs

      choose : (b : Bool)
          → option_and_then (slice_get (front ++ (x ∷ xs))) (position_from p (length front + 1) xs)
          ≡ find p xs
          → option_and_then (slice_get (front ++ (x ∷ xs)))
          (cond b (Some (length front)) (position_from p (length front + 1) xs))
          ≡ cond b (Some x) (find p xs)
      choose true rest = here
      choose false rest = rest
