-- The element at a place of a list.
use Rattle.std.proofs.Common.{◌≡◌, ℕ, ◌+◌, ◌<◌, List, [], ◌∷◌, ◌++◌, length, Some, refl, ap, arith, ◌⊎◌, inl, inr, suc, zero, get_or}
use Rattle.std.specs.Prelude.{All, map, slice_get, slice_set}
use Rattle.std.proofs.lemmas.List.Elements.{All-cons, All-nil}
use Rattle.std.proofs.lemmas.Option.{same_Some}

module _ {A : Type 0} where
  -- after a write, a place has the element written, or the one it had
  pub get_set : (xs : List A) (k j : ℕ) (y x : A) → slice_get (slice_set xs k y) j ≡ Some x
      → ((k ≡ j) × (y ≡ x)) ⊎ ((k ≡ j → ⊥) × (slice_get xs j ≡ Some x))
  get_set [] k j y x h = absurd (cc)
  get_set (z ∷ xs) zero zero y x h = inl (refl, same_Some y x h)
  get_set (z ∷ xs) zero (suc j) y x h = inr ((λ e. absurd (omega arith)), h)
  get_set (z ∷ xs) (suc k) zero y x h = inr ((λ e. absurd (omega arith)), h)
  get_set (z ∷ xs) (suc k) (suc j) y x h = at (get_set xs k j y x h) where
    at : ((k ≡ j) × (y ≡ x)) ⊎ ((k ≡ j → ⊥) × (slice_get xs j ≡ Some x))
        → ((suc k ≡ suc j) × (y ≡ x)) ⊎ ((suc k ≡ suc j → ⊥) × (slice_get xs j ≡ Some x))
    at (inl w) = inl (ap suc w.0, w.1)
    at (inr w) = inr ((λ e. w.0 (let f : suc k ≡ suc j = e in omega arith)), w.1)

  -- an element of the front is at the same place of the whole list
  pub get_left : (xs ys : List A) (k : ℕ) (x : A) → slice_get xs k ≡ Some x
      → slice_get (xs ++ ys) k ≡ Some x
  get_left [] ys k x h = absurd (cc)
  get_left (y ∷ xs) ys zero x h = h
  get_left (y ∷ xs) ys (suc k) x h = get_left xs ys k x h

  -- an appended element is at the end
  pub get_last : (xs : List A) (y : A) → slice_get (xs ++ y ∷ []) (length xs) ≡ Some y
  get_last [] y = refl
  get_last (x ∷ xs) y = get_last xs y

  -- an element of the whole list is in the front or in the rest
  pub get_parts : (xs ys : List A) (k : ℕ) (x : A) → slice_get (xs ++ ys) k ≡ Some x
      → (slice_get xs k ≡ Some x)
      ⊎ ((j : ℕ) × ((k ≡ length xs + j) × (slice_get ys j ≡ Some x)))
  get_parts [] ys k x h = inr (k, (let l : k ≡ 0 + k = omega arith in l, h))
  get_parts (y ∷ xs) ys zero x h = inl h
  get_parts (y ∷ xs) ys (suc k) x h = at (get_parts xs ys k x h) where
    at : (slice_get xs k ≡ Some x) ⊎ ((j : ℕ) × ((k ≡ length xs + j) × (slice_get ys j ≡ Some x)))
        → (slice_get xs k ≡ Some x)
        ⊎ ((j : ℕ) × ((suc k ≡ suc (length xs) + j) × (slice_get ys j ≡ Some x)))
    at (inl w) = inl w
    at (inr w) = inr (
      w.0,
      (
        let l : suc k ≡ suc (length xs) + w.0 =
            let m : k ≡ length xs + w.0 = w.1.0 in omega arith in l,
        w.1.1,
      ),
    )

  -- a list has an element at each place below its length
  pub got : (xs : List A) (k : ℕ) (d : A) → k < length xs → slice_get xs k ≡ Some (get_or xs k d)
  got [] k d b = absurd (omega arith)
  got (x ∷ xs) zero d b = refl
  got (x ∷ xs) (suc k) d b = got xs k d (omega arith)

  -- a property of the element at each place holds of all
  pub all_by_get : (P : A → Type 0) (xs : List A)
      → ((k : ℕ) (x : A) → slice_get xs k ≡ Some x → P x) → All P xs
  all_by_get P [] each = All-nil P
  all_by_get P (x ∷ xs) each =
      All-cons P x xs (each 0 x refl) (all_by_get P xs (λ k. each (suc k)))

-- the element of a mapped list at a place is the image of the one in the list
pub get_map : {A B : Type 0} (f : A → B) (xs : List A) (k : ℕ) (y : B)
    → slice_get (map f xs) k ≡ Some y → (x : A) × ((slice_get xs k ≡ Some x) × (f x ≡ y))
get_map f [] k y h = absurd (cc)
get_map f (x ∷ xs) zero y h = (x, (refl, same_Some (f x) y h))
get_map f (x ∷ xs) (suc k) y h = get_map f xs k y h

-- the map of a list has the image of an element at the same place
pub map_get : {A B : Type 0} (f : A → B) (xs : List A) (k : ℕ) (x : A)
    → slice_get xs k ≡ Some x → slice_get (map f xs) k ≡ Some (f x)
map_get f [] k x h = absurd (cc)
map_get f (y ∷ xs) zero x h = (λ i. Some (f (same_Some y x h i)))
map_get f (y ∷ xs) (suc k) x h = map_get f xs k x h
