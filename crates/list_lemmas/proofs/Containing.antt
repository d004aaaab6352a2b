-- Membership in lists.
use Rattle.std.proofs.Common.{◌≡◌, ℕ, zero, suc, ◌<◌, List, [], ◌∷◌, ◌++◌, length, get_or, refl, sym, subst, arith, inl, inr}
use Rattle.std.specs.Prelude.{◌⊎◌, Contains, Some, reverse, slice_get}
use Rattle.std.proofs.lemmas.List.{reverse-append, reverse-reverse}
use Rattle.std.proofs.lemmas.List.Elements.{Contains-append_left, Contains-append_right, Contains-append_cases}
use Rattle.std.proofs.lemmas.Option.{slice_get_read}

module _ {A : Type 0} where
  -- a list contains its first element
  pub has_first : (x : A) (xs : List A) → Contains (x ∷ xs) x
  has_first x xs = (0, omega arith, refl)

  -- a list contains the elements of its rest
  pub has_later : (y x : A) (xs : List A) → Contains xs x → Contains (y ∷ xs) x
  has_later y x xs h = Contains-append_right (y ∷ []) xs x h

  -- an empty list contains nothing
  pub has_none : (x : A) → Contains [] x → ⊥
  has_none x h = let l : h.0 < 0 = h.1 in absurd (omega arith)

  -- a list of one contains only that element
  one_has : (y x : A) → Contains (y ∷ []) x → y ≡ x
  one_has y x h = at h.0 h.1 h.2 where
    at : (k : ℕ) → k < 1 → get_or (y ∷ []) k x ≡ x → y ≡ x
    at zero l e = e
    at (suc k) l e = absurd (omega arith)

  -- an element of a list is the first or is in the rest
  pub has_cases : (y x : A) (xs : List A) → Contains (y ∷ xs) x → (y ≡ x) ⊎ Contains xs x
  has_cases y x xs h = at (Contains-append_cases (y ∷ []) xs x h) where
    at : Contains (y ∷ []) x ⊎ Contains xs x → (y ≡ x) ⊎ Contains xs x
    at (inl a) = inl (one_has y x a)
    at (inr b) = inr b

  -- a reversed list contains the elements of the list
  pub has_reverse : (xs : List A) (x : A) → Contains xs x → Contains (reverse xs) x
  has_reverse [] x h = absurd (has_none x h)
  has_reverse (y ∷ xs) x h = subst (λ (l : List A). Contains l x) (sym (reverse-append (y ∷ []) xs))
      (at (has_reverse xs x) (has_cases y x xs h)) where
        at : (Contains xs x → Contains (reverse xs) x) → (y ≡ x) ⊎ Contains xs x
            → Contains (reverse xs ++ y ∷ []) x
        at ih (inl e) = subst (λ (z : A). Contains (reverse xs ++ y ∷ []) z) e
            (Contains-append_right (reverse xs) (y ∷ []) y (has_first y []))
        at ih (inr r) = Contains-append_left (reverse xs) (y ∷ []) x (ih r)

  -- a list contains the elements of its reverse
  pub has_reversed : (xs : List A) (x : A) → Contains (reverse xs) x → Contains xs x
  has_reversed xs x h =
      subst (λ (l : List A). Contains l x) (reverse-reverse xs) (has_reverse (reverse xs) x h)

  -- an element of a list is at some place in it
  pub has_at : (xs : List A) (x : A) → Contains xs x → (k : ℕ) × (slice_get xs k ≡ Some x)
  has_at xs x h = (h.0, slice_get_read xs (length xs) h.0 x refl h.1 (sym h.2))
