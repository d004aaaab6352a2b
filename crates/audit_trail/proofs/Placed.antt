-- The tasks and the files of a script, as the definitions see them.
use Rattle.std.proofs.Common.{◌≡◌, ℕ, zero, suc, ◌<◌, ◌≤◌, List, [], ◌∷◌, length, map, get_or, Option, Some, None, refl, sym, ◌∙◌, ap, subst, arith}
use Rattle.std.specs.Prelude.{option_map, slice_get}
use Rattle.std.specs.List.{AllByRecursion}
use Rattle.std.proofs.lemmas.Option.{slice_get-map, slice_get_past, slice_get_read}

module _ {A B : Type 0} (f : A → B) (xs : List A) (i : ℕ) where
  -- the image of an element that was read
  pub mapped_there : (x : A) → i < length xs → x ≡ get_or xs i x
      → slice_get (map f xs) i ≡ Some (f x)
  mapped_there x l is =
      let here : slice_get xs i ≡ Some x = slice_get_read xs (length xs) i x refl l is in
      slice_get-map f xs i ∙ ap (λ (o : Option A). option_map f o) here

  -- past the end there is no image
  pub mapped_past : length xs ≤ i → slice_get (map f xs) i ≡ None
  mapped_past l =
      slice_get-map f xs i ∙ ap (λ (o : Option A). option_map f o) (slice_get_past xs i l)

module _ {A : Type 0} (place : A → ℕ) (n : ℕ) where
  -- the number of an element that was read is below the limit of all
  pub placed_at : (xs : List A) → AllByRecursion (λ k. k < n) (map place xs) → (i : ℕ) (x : A)
      → i < length xs → x ≡ get_or xs i x → place x < n
  placed_at [] h i x l is = absurd (omega arith)
  placed_at (y ∷ ys) h zero x l is = subst (λ (z : A). place z < n) (sym is) h.0
  placed_at (y ∷ ys) h (suc i) x l is = placed_at ys h.1 i x (omega arith) is

  -- the numbers of elements that pass are below the limit
  pub placed_all : (P : A → Type 0) (xs : List A) → AllByRecursion P xs
      → ((x : A) → P x → place x < n) → AllByRecursion (λ k. k < n) (map place xs)
  placed_all P [] h below = tt
  placed_all P (x ∷ xs) h below = (below x h.0, placed_all P xs h.1 below)
