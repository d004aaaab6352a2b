-- The element at an index of a list that is put together from parts.
use Rattle.std.proofs.Common.{◌≡◌, ℕ, zero, suc, ◌+◌, ◌<◌, ◌≤◌, ⊎_elim, List, [], ◌∷◌, ◌++◌, length, take, drop, Some, refl, sym, ap, ◌∙◌, arith}
use Rattle.std.specs.Prelude.{slice_get}
use Rattle.std.proofs.lemmas.Bool.{cases_lt}

module _ {X : Type 0} where
  -- an element of the first part
  pub get-append_left : (xs ys : List X) (k : ℕ) → k < length xs → slice_get (xs ++ ys) k
      ≡ slice_get xs k
  get-append_left [] ys k within = absurd (omega arith)
  get-append_left (x ∷ xs) ys zero within = refl
  get-append_left (x ∷ xs) ys (suc k) within = get-append_left xs ys k (omega arith)

  -- an element of the second part
  pub get-append_right : (xs ys : List X) (k : ℕ) → slice_get (xs ++ ys) (length xs + k)
      ≡ slice_get ys k
  get-append_right [] ys k = let place : 0 + k ≡ k = omega arith in ap (slice_get ys) place
  get-append_right (x ∷ xs) ys k =
      let place : suc (length xs) + k ≡ suc (length xs + k) = omega arith in
      ap (slice_get (x ∷ xs ++ ys)) place ∙ get-append_right xs ys k

  -- an element after the first n
  pub get-drop : (n : ℕ) (xs : List X) (k : ℕ) → slice_get (drop n xs) k ≡ slice_get xs (n + k)
  get-drop zero xs k = let place : k ≡ 0 + k = omega arith in ap (slice_get xs) place
  get-drop (suc n) [] k = refl
  get-drop (suc n) (x ∷ xs) k =
      let place : suc (n + k) ≡ suc n + k = omega arith in get-drop n xs k
      ∙ ap (slice_get (x ∷ xs)) place

  -- an element among the first n
  pub get-take : (n : ℕ) (xs : List X) (k : ℕ) → k < n → slice_get (take n xs) k ≡ slice_get xs k
  get-take zero xs k within = absurd (omega arith)
  get-take (suc n) [] k within = refl
  get-take (suc n) (x ∷ xs) zero within = refl
  get-take (suc n) (x ∷ xs) (suc k) within = get-take n xs k (omega arith)

  -- if the first n elements are those of f, and so is one more, then all are
  pub get-push : (f : ℕ → X) (xs ys : List X) (x : X) (n : ℕ) → ys ≡ xs ++ x ∷ [] → length xs ≡ n
      → x ≡ f n → ((j : ℕ) → j < n → slice_get xs j ≡ Some (f j)) → (j : ℕ) → j < n + 1
      → slice_get ys j ≡ Some (f j)
  get-push f xs ys x n is long more each j below =
      ap (λ (l : List X). slice_get l j) is
      ∙ ⊎_elim
      (λ (before : j < n).
      get-append_left xs (x ∷ []) j (omega (arith, long, before)) ∙ each j before)
      (λ (last : n ≤ j).
      let at : length xs + 0 ≡ j = omega (arith, long, last, below) in
      let here : n ≡ j = omega (arith, last, below) in
      ap (slice_get (xs ++ x ∷ [])) (sym at) ∙ get-append_right xs (x ∷ []) 0 ∙ ap Some more
      ∙ ap (λ m. Some (f m)) here)
      (cases_lt j n)
