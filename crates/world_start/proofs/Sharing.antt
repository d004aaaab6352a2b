-- Each task gets its pass of a journal.
use Rattle.std.proofs.Common.{◌≡◌, ℕ, ◌+◌, ◌<◌, ◌≤◌, List, [], ◌∷◌, ◌++◌, length, refl, ap, sym, ◌∙◌, arith, Some, ◌⊎◌, inl, inr, suc, zero, get_or, subst}
use Rattle.std.specs.Prelude.{slice_get, slice_set}
use Rattle.std.proofs.lemmas.Bool.{cases_eq}
use Rattle.std.proofs.lemmas.List.{length-set}
use Rattle.std.proofs.lemmas.Option.{get_or_from_slice_get, same_Some, slice_get_within}
use Rattle.grow_list.specs.Shown.{Passed}
use Rattle.inode_events.specs.declared.told.Event.{Event}

module _ {A : Type 0} where
  -- an element that was written is found at its place
  pub get_set_same : (xs : List A) (k : ℕ) (v : A) → k < length xs
      → slice_get (slice_set xs k v) k ≡ Some v
  get_set_same [] k v b = absurd (omega arith)
  get_set_same (x ∷ xs) zero v b = refl
  get_set_same (x ∷ xs) (suc k) v b = get_set_same xs k v (omega arith)

  -- a write leaves the other places as they were
  pub get_set_other : (xs : List A) (k j : ℕ) (v : A) → (j ≡ k → ⊥)
      → slice_get (slice_set xs k v) j ≡ slice_get xs j
  get_set_other [] k j v ne = refl
  get_set_other (x ∷ xs) zero zero v ne = absurd (ne refl)
  get_set_other (x ∷ xs) zero (suc j) v ne = refl
  get_set_other (x ∷ xs) (suc k) zero v ne = refl
  get_set_other (x ∷ xs) (suc k) (suc j) v ne = get_set_other xs k j v (λ e. ne (ap suc e))

-- the rows below k have been given their element, and the others are as before
pub record IsShared {A : Type 0} (of : ℕ → A) (k : ℕ) (old new : List (List A)) : Type 0 where
  pub given : (j : ℕ) (row : List A) → j < k → slice_get old j ≡ Some row
      → slice_get new j ≡ Some (row ++ of j ∷ [])
  pub left : (j : ℕ) → k ≤ j → slice_get new j ≡ slice_get old j

-- one more row has been given its element
pub shared_more : {A : Type 0} (of : ℕ → A) (k : ℕ) (old new new2 : List (List A)) (x : A)
    → k < length new → x ≡ of k → new2 ≡ slice_set new k (get_or new k [] ++ x ∷ [])
    → IsShared of k old new → IsShared of (k + 1) old new2
shared_more {A} of k old new new2 x within is set s = record {
  given = λ j row below at. given j row below at (cases_eq j k);
  left = λ j above.
      ap (λ (l : List (List A)). slice_get l j) set
      ∙ get_set_other new k j (get_or new k [] ++ x ∷ []) (λ e. absurd (omega arith))
      ∙ s.left j (omega arith);
} where
  given : (j : ℕ) (row : List A) → j < k + 1 → slice_get old j ≡ Some row
      → (j ≡ k) ⊎ (j ≡ k → ⊥) → slice_get new2 j ≡ Some (row ++ of j ∷ [])
  given j row below at (inl e) =
      subst (λ (i : ℕ). slice_get new2 i ≡ Some (row ++ of i ∷ [])) (sym e)
      (ap (λ (l : List (List A)). slice_get l k) set
      ∙ get_set_same new k (get_or new k [] ++ x ∷ []) within
      ∙ (λ i. Some (was i ++ is i ∷ []))) where
        was : get_or new k [] ≡ row
        was = get_or_from_slice_get new k row []
            (s.left k (omega arith) ∙ ap (slice_get old) (sym e) ∙ at)
  given j row below at (inr ne) =
      ap (λ (l : List (List A)). slice_get l j) set
      ∙ get_set_other new k j (get_or new k [] ++ x ∷ []) ne
      ∙ s.given j row (before_it j k below ne) at where
        before_it : (j k : ℕ) → j < k + 1 → (j ≡ k → ⊥) → j < k
        before_it j k b n = grind arith

-- no row has been given its element at first
pub shared_none : {A : Type 0} (of : ℕ → A) (old : List (List A)) → IsShared of 0 old old
shared_none of old = record {
  given = λ j row below at. absurd (omega arith);
  left = λ j above. refl;
}

-- the first k rows have their passes of one journal, and the column has the other passes
pub record Shares (of : ℕ → Passed Event) (k : ℕ) (old rows : List (List (Passed Event)))
    (left : List (Passed Event)) : Type 0 where
  pub count : length rows ≡ length old
  pub rest : length left + k ≡ length rows
  pub column : (j : ℕ) → j < length left → slice_get left j ≡ Some (of (k + j))
  pub shared : IsShared of k old rows

pub shares_none : (of : ℕ → Passed Event) (rows : List (List (Passed Event)))
    (column : List (Passed Event)) → length column ≡ length rows
    → ((j : ℕ) → j < length column → slice_get column j ≡ Some (of j))
    → Shares of 0 rows rows column
shares_none of rows column even each = record {
  count = refl;
  rest = omega arith;
  column = λ j below.
      each j below
      ∙ ap (λ (n : ℕ). Some (of n))
      (let e : j ≡ 0 + j = omega arith in e);
  shared = shared_none of rows;
}

-- one more row has its pass
pub shares_more : (of : ℕ → Passed Event) (k : ℕ) (old rows rows2 : List (List (Passed Event)))
    (column column2 : List (Passed Event)) (pass : Passed Event) → column ≡ pass ∷ column2
    → rows2 ≡ slice_set rows k (get_or rows k [] ++ pass ∷ [])
    → Shares of k old rows column → Shares of (k + 1) old rows2 column2
shares_more of k old rows rows2 column column2 pass first set s = record {
  count = even ∙ s.count;
  rest = let e = ap length first in let r = s.rest in let n = even in omega arith;
  column = λ j below.
      ap (λ (l : List (Passed Event)). slice_get l (suc j)) (sym first)
      ∙ s.column (suc j) (let e = ap length first in omega arith)
      ∙ ap (λ (n : ℕ). Some (of n))
      (let e : k + suc j ≡ k + 1 + j = omega arith in e);
  shared = shared_more of k old rows rows2 pass
      (let e = ap length first in let r = s.rest in omega arith)
      (same_Some pass (of k)
      (ap (λ (l : List (Passed Event)). slice_get l 0) (sym first)
      ∙ s.column 0 (let e = ap length first in omega arith)
      ∙ ap (λ (n : ℕ). Some (of n))
      (let e : k + 0 ≡ k = omega arith in e))) set s.shared;
} where
  even : length rows2 ≡ length rows
  even = ap length set ∙ length-set rows k (get_or rows k [] ++ pass ∷ [])

-- once all rows are passed, each has its pass
pub shares_all : (of : ℕ → Passed Event) (k : ℕ) (old rows : List (List (Passed Event)))
    (column : List (Passed Event)) → length old ≤ k → Shares of k old rows column → (j : ℕ)
    → (row : List (Passed Event)) → slice_get old j ≡ Some row
    → slice_get rows j ≡ Some (row ++ of j ∷ [])
shares_all of k old rows column all s j row at =
    s.shared.given j row (let b = slice_get_within old j row at in omega arith) at
