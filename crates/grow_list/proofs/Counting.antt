-- The entries with one number, in a list that grows.
use Rattle.std.proofs.Common.{◌≡◌, ◌≢◌, ℕ, suc, ◌+◌, ◌<◌, List, [], ◌∷◌, ◌++◌, length, Bool, true, false, cond, eqb, refl, sym, ap, ◌∙◌, arith, eq-eqb, ne_eqb}
use mathlib.Core.List.{IsPrefix}
use Rattle.std.specs.Prelude.{All}
use Rattle.std.proofs.lemmas.List.{append-nil}
use Rattle.std.proofs.lemmas.List.Elements.{All-nil, All-cons, All-weaker}
use Rattle.grow_list.specs.Entries.{entries_from, entries_of}

module _ {E : Type 0} where
  either_part : (b : Bool) (y : ℕ × E) (xs ys : List (ℕ × E)) → cond b (y ∷ (xs ++ ys)) (xs ++ ys)
      ≡ cond b (y ∷ xs) xs ++ ys
  either_part true y xs ys = refl
  either_part false y xs ys = refl

  pub entries_from-append : (n k : ℕ) (ms rs : List ℕ) (xs ys : List E) → length ms ≡ length xs
      → entries_from n k (ms ++ rs) (xs ++ ys) ≡ entries_from n k ms xs
      ++ entries_from n (k + length xs) rs ys
  entries_from-append n k [] rs [] ys even =
      let e : k ≡ k + 0 = omega arith in ap (λ (j : ℕ). entries_from n j rs ys) e
  entries_from-append n k [] rs (x ∷ xs) ys even = absurd (omega arith)
  entries_from-append n k (m ∷ ms) rs [] ys even = absurd (omega arith)
  entries_from-append n k (m ∷ ms) rs (x ∷ xs) ys even =
      let more : entries_from n (k + 1) (ms ++ rs) (xs ++ ys) ≡ entries_from n (k + 1) ms xs
      ++ entries_from n (k + 1 + length xs) rs ys =
      entries_from-append n (k + 1) ms rs xs ys (omega arith) in
      let e : k + 1 + length xs ≡ k + suc (length xs) = omega arith in
      ap (λ (l : List (ℕ × E)). cond (eqb n m) ((k, x) ∷ l) l)
      (more ∙ ap (λ (j : ℕ). entries_from n (k + 1) ms xs ++ entries_from n j rs ys) e)
      ∙ either_part (eqb n m) (k, x) (entries_from n (k + 1) ms xs)
      (entries_from n (k + suc (length xs)) rs ys)

  -- the entries with one number, after one more entry with the same or another number
  pub entries-same : (n : ℕ) (ms : List ℕ) (xs : List E) (x : E) → length ms ≡ length xs
      → entries_of n (ms ++ n ∷ []) (xs ++ x ∷ []) ≡ entries_of n ms xs ++ (length xs, x) ∷ []
  entries-same n ms xs x even =
      let place : 0 + length xs ≡ length xs = omega arith in
      entries_from-append n 0 ms (n ∷ []) xs (x ∷ []) even
      ∙ ap (λ (b : Bool). entries_of n ms xs ++ cond b ((0 + length xs, x) ∷ []) [])
      (eq-eqb n n refl)
      ∙ ap (λ (k : ℕ). entries_of n ms xs ++ (k, x) ∷ []) place

  pub entries-other : (n m : ℕ) (ms : List ℕ) (xs : List E) (x : E) → n ≢ m → length ms ≡ length xs
      → entries_of n (ms ++ m ∷ []) (xs ++ x ∷ []) ≡ entries_of n ms xs
  entries-other n m ms xs x other even =
      entries_from-append n 0 ms (m ∷ []) xs (x ∷ []) even
      ∙ ap (λ (b : Bool). entries_of n ms xs ++ cond b ((0 + length xs, x) ∷ []) [])
      (ne_eqb n m other)
      ∙ append-nil (entries_of n ms xs)

  pub entries-prefix : (n : ℕ) (ms ns : List ℕ) (xs ys : List E) → length ms ≡ length xs
      → IsPrefix ms ns → IsPrefix xs ys
      → IsPrefix (entries_of n ms xs) (entries_of n ns ys)
  entries-prefix n ms ns xs ys even a b = (
    entries_from n (0 + length xs) a.0 b.0,
    sym (entries_from-append n 0 ms a.0 xs b.0 even)
        ∙ (λ i. entries_of n (a.1 i) (b.1 i)),
  )

  cond_all : (P : ℕ × E → Type 0) (b : Bool) (x : ℕ × E) (xs : List (ℕ × E)) → P x → All P xs
      → All P (cond b (x ∷ xs) xs)
  cond_all P true x xs first rest = All-cons P x xs first rest
  cond_all P false x xs first rest = rest

  entries_from-below : (n k : ℕ) (ms : List ℕ) (xs : List E)
      → All (λ x. x.0 < k + length xs) (entries_from n k ms xs)
  entries_from-below n k [] xs = All-nil (λ (x : ℕ × E). x.0 < k + length xs)
  entries_from-below n k (m ∷ ms) [] = All-nil (λ (x : ℕ × E). x.0 < k + 0)
  entries_from-below n k (m ∷ ms) (x ∷ xs) =
      cond_all (λ (y : ℕ × E). y.0 < k + suc (length xs)) (eqb n m) (k, x)
      (entries_from n (k + 1) ms xs) (omega arith)
      (All-weaker (λ (y : ℕ × E). y.0 < k + 1 + length xs)
      (λ (y : ℕ × E). y.0 < k + suc (length xs)) (λ y below. omega arith)
      (entries_from n (k + 1) ms xs) (entries_from-below n (k + 1) ms xs))

  -- the index of each entry is below the length of the list
  pub entries-below : (n : ℕ) (ms : List ℕ) (xs : List E)
      → All (λ x. x.0 < length xs) (entries_of n ms xs)
  entries-below n ms xs =
      All-weaker (λ (y : ℕ × E). y.0 < 0 + length xs) (λ (y : ℕ × E). y.0 < length xs)
      (λ y below. omega arith) (entries_of n ms xs) (entries_from-below n 0 ms xs)
