-- A text goes into a set at its place.
use Rattle.std.proofs.Common.{◌≡◌, ℕ, suc, ◌+◌, ◌<◌, ◌≤◌, List, [], ◌∷◌, drop, get_or, length, insert, Option, Some, None, refl, sym, ap, ◌∙◌, add-zero, zero-add, arith}
use Rattle.std.specs.Prelude.{option_map}
use Rattle.std.specs.Cmp.Lexicographic.{slice_cmp}
use Rattle.std.specs.Ordering.{nat_cmp}
use Rattle.std.specs.declared.cmp.Ordering.{Ordering}
use Rattle.std.specs.declared.cmp.Ordering.TheVariants.{Less, Equal, Greater}
use Rattle.std.proofs.lemmas.List.{at_drop_all, at_drop_more}
use Rattle.std.proofs.lemmas.Option.{none-some, same_Some}
use Rattle.order_outcomes.specs.Sets.{place_by, place_for, with_by, with_text}

-- ---- the set

-- a text that has a place is put there
pub put_at : (t : List ℕ) (xs : List (List ℕ)) (k : ℕ) → place_for t xs ≡ Some k
    → with_text t xs ≡ insert xs k t
put_at t [] k h = ap (λ j. insert [] j t) (same_Some 0 k h)
put_at t (x ∷ xs) k h = by (slice_cmp nat_cmp t x) (place_for t xs) refl h (put_at t xs)
  where
    by : (o : Ordering) (r : Option ℕ) → r ≡ place_for t xs → place_by o r ≡ Some k
        → ((j : ℕ) → place_for t xs ≡ Some j → with_text t xs ≡ insert xs j t)
        → with_by o t x xs (with_text t xs) ≡ insert (x ∷ xs) k t
    by Less r e p rest = ap (λ j. insert (x ∷ xs) j t) (same_Some 0 k p)
    by Equal r e p rest = absurd (none-some k p)
    by Greater None e p rest = absurd (none-some k p)
    by Greater (Some j) e p rest =
        ap (λ l. x ∷ l) (rest j (sym e)) ∙ ap (λ i. insert (x ∷ xs) i t) (same_Some (suc j) k p)

-- a text that has none is there already
pub has_it : (t : List ℕ) (xs : List (List ℕ)) → place_for t xs ≡ None → with_text t xs ≡ xs
has_it t [] h = absurd (none-some 0 (sym h))
has_it t (x ∷ xs) h = by (slice_cmp nat_cmp t x) (place_for t xs) refl h (has_it t xs)
  where
    by : (o : Ordering) (r : Option ℕ) → r ≡ place_for t xs → place_by o r ≡ None
        → (place_for t xs ≡ None → with_text t xs ≡ xs)
        → with_by o t x xs (with_text t xs) ≡ x ∷ xs
    by Less r e p rest = absurd (none-some 0 (sym p))
    by Equal r e p rest = refl
    by Greater None e p rest = ap (λ l. x ∷ l) (rest (sym e))
    by Greater (Some j) e p rest = absurd (none-some (suc j) (sym p))

-- ---- the search for the place

-- the place of the text, found in the rest of the set after its first k texts
abbrev pub place_from : ℕ → List ℕ → List (List ℕ) → Option ℕ
place_from k t xs = option_map (λ j. k + j) (place_for t (drop k xs))

shift_none : (o : Option ℕ) → option_map (λ j. 0 + j) o ≡ o
shift_none None = refl
shift_none (Some j) = ap Some (zero-add j)

pub place_start : (t : List ℕ) (xs : List (List ℕ)) → place_from 0 t xs ≡ place_for t xs
place_start t xs = shift_none (place_for t xs)

shift_more : (k : ℕ) (r : Option ℕ)
    → option_map (λ j. k + j) (option_map suc r) ≡ option_map (λ j. (k + 1) + j) r
shift_more k None = refl
shift_more k (Some j) = ap Some (omega arith)

module _ (t : List ℕ) (xs : List (List ℕ)) (k : ℕ) (x : List ℕ) (lt : k < length xs)
    (is : x ≡ get_or xs k x) (inv : place_from k t xs ≡ place_for t xs) where
  -- how the text compares with the next one decides
  here : (o : Ordering) → slice_cmp nat_cmp t x ≡ o
      → place_for t xs ≡ option_map (λ j. k + j) (place_by o (place_for t (drop (k + 1) xs)))
  here o e =
      sym inv ∙ ap (option_map (λ j. k + j)) (at_drop_more (place_for t) xs k x lt
      ∙ ap (λ y. place_by (slice_cmp nat_cmp t y) (place_for t (drop (k + 1) xs))) (sym is)
      ∙ ap (λ p. place_by p (place_for t (drop (k + 1) xs))) e)

  pub place_here : slice_cmp nat_cmp t x ≡ Less → Some k ≡ place_for t xs
  place_here e = ap Some (sym (add-zero k)) ∙ sym (here Less e)

  pub place_none : slice_cmp nat_cmp t x ≡ Equal → None ≡ place_for t xs
  place_none e = sym (here Equal e)

  pub place_later : slice_cmp nat_cmp t x ≡ Greater → place_from (k + 1) t xs ≡ place_for t xs
  place_later e =
      sym (shift_more k (place_for t (drop (k + 1) xs))) ∙ sym (here Greater e)

-- after the last text
pub place_end : (t : List ℕ) (xs : List (List ℕ)) (k : ℕ) → length xs ≤ k → k ≤ length xs
    → place_from k t xs ≡ place_for t xs → Some (length xs) ≡ place_for t xs
place_end t xs k le ge inv =
    ap Some (omega (arith, le, ge)) ∙ ap (option_map (λ j. k + j))
    (sym (at_drop_all (place_for t) xs k le)) ∙ inv
