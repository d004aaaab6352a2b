-- The element of a list at an index.
use Rattle.std.proofs.Common.{◌≡◌, ℕ, zero, suc, ◌+◌, List, [], ◌∷◌, ◌++◌, length, take, drop, Some, refl, ap, ◌∙◌, arith}
use Rattle.std.specs.Prelude.{slice_get}

module _ {X : Type 0} where
  -- the element that follows a first part
  pub get-seam : (xs : List X) (y : X) (ys : List X) → slice_get (xs ++ (y ∷ ys)) (length xs)
      ≡ Some y
  get-seam [] y ys = refl
  get-seam (x ∷ xs) y ys = get-seam xs y ys

  -- an element after the first n
  pub get-drop : (n : ℕ) (xs : List X) (k : ℕ) → slice_get (drop n xs) k ≡ slice_get xs (n + k)
  get-drop zero xs k = let place : k ≡ 0 + k = omega arith in ap (slice_get xs) place
  get-drop (suc n) [] k = refl
  get-drop (suc n) (x ∷ xs) k =
      let place : suc (n + k) ≡ suc n + k = omega arith in get-drop n xs k
      ∙ ap (slice_get (x ∷ xs)) place

  -- an element among the first n is an element of the list
  pub get-take : (n : ℕ) (xs : List X) (k : ℕ) (y : X) → slice_get (take n xs) k ≡ Some y
      → slice_get xs k ≡ Some y
  get-take zero xs k y is = absurd cc
  get-take (suc n) [] k y is = absurd cc
  get-take (suc n) (x ∷ xs) zero y is = is
  get-take (suc n) (x ∷ xs) (suc k) y is = get-take n xs k y is

  -- the first n elements and the next one
  pub take-next : (n : ℕ) (xs : List X) (y : X) → slice_get xs n ≡ Some y → take (n + 1) xs
      ≡ take n xs ++ y ∷ []
  take-next n [] y is = absurd cc
  take-next zero (x ∷ xs) y is = let same : x ≡ y = cc in ap (λ z. z ∷ []) same
  take-next (suc n) (x ∷ xs) y is =
      let more : suc n + 1 ≡ suc (n + 1) = omega arith in
      ap (λ (k : ℕ). take k (x ∷ xs)) more ∙ ap (λ l. x ∷ l) (take-next n xs y is)
