-- The consequences of `HasItsOwn`: a pass's own entries are in the list at their indices, none is
-- missing, and their indices increase.
use Rattle.std.proofs.Common.{◌≡◌, ℕ, zero, suc, ◌+◌, ◌<◌, List, [], ◌∷◌, ◌++◌, length, Some, Bool, true, false, cond, eqb, refl, sym, ap, ◌∙◌, arith, eq-eqb}
use Rattle.std.specs.Prelude.{slice_get}
use Rattle.std.proofs.lemmas.Bool.{eqb-true}
use Rattle.std.proofs.lemmas.Option.{none-some, same_Some, some_pair_parts}
use Rattle.grow_list.specs.Entries.{entries_from}
use Rattle.grow_list.specs.Shown.{Grown, Passed, HasItsOwn}

-- the last element of a list
pub slice_get-push : {X : Type 0} (xs : List X) (x : X) → slice_get (xs ++ x ∷ []) (length xs)
    ≡ Some x
slice_get-push [] x = refl
slice_get-push (y ∷ ys) x = slice_get-push ys x

-- an element before the last one
pub slice_get-before : {X : Type 0} (xs : List X) (x : X) (k : ℕ) → k < length xs
    → slice_get (xs ++ x ∷ []) k ≡ slice_get xs k
slice_get-before [] x k within = absurd (omega arith)
slice_get-before (y ∷ ys) x zero within = refl
slice_get-before (y ∷ ys) x (suc k) within = slice_get-before ys x k (omega arith)

module _ {E : Type 0} where
  -- the entry (k, x) is one of those with the number n, if the first index is low
  Stands : ℕ → ℕ → List ℕ → List E → ℕ → E → Type 0
  Stands n low ms xs k x = (j : ℕ) × (k ≡ low + j) × (slice_get xs j ≡ Some x)
      × (slice_get ms j ≡ Some n)

  further : (n low m : ℕ) (ms : List ℕ) (y : E) (ys : List E) (k : ℕ) (x : E)
      → Stands n (low + 1) ms ys k x → Stands n low (m ∷ ms) (y ∷ ys) k x
  unfolding Stands
  further n low m ms y ys k x s = let e = s.1 in (suc s.0, omega arith, s.2, s.3)

  stands_in : (b : Bool) (n low m : ℕ) (ms : List ℕ) (y : E) (ys : List E) (i k : ℕ) (x : E)
      → eqb n m ≡ b
      → ((i : ℕ) → slice_get (entries_from n (low + 1) ms ys) i ≡ Some (k, x)
      → Stands n (low + 1) ms ys k x)
      → slice_get (cond b ((low, y) ∷ entries_from n (low + 1) ms ys)
      (entries_from n (low + 1) ms ys)) i ≡ Some (k, x) → Stands n low (m ∷ ms) (y ∷ ys) k x
  unfolding Stands
  stands_in true n low m ms y ys zero k x test rest e =
      let same = some_pair_parts low k y x e in
      let at : low ≡ k = same.0 in
      (0, omega arith, ap Some same.1, ap Some (sym (eqb-true n m test)))
  stands_in true n low m ms y ys (suc i) k x test rest e = further n low m ms y ys k x (rest i e)
  stands_in false n low m ms y ys i k x test rest e = further n low m ms y ys k x (rest i e)

  stands : (n low : ℕ) (ms : List ℕ) (xs : List E) (i k : ℕ) (x : E)
      → slice_get (entries_from n low ms xs) i ≡ Some (k, x) → Stands n low ms xs k x
  stands n low [] xs i k x e = absurd (none-some (k, x) e)
  stands n low (m ∷ ms) [] i k x e = absurd (none-some (k, x) e)
  stands n low (m ∷ ms) (y ∷ ys) i k x e =
      stands_in (eqb n m) n low m ms y ys i k x refl (λ j f. stands n (low + 1) ms ys j k x f) e

  has_in : (b : Bool) (y : ℕ × E) (ys : List (ℕ × E)) (z : ℕ × E) → (i : ℕ)
      × (slice_get ys i ≡ Some z) → (i : ℕ) × (slice_get (cond b (y ∷ ys) ys) i ≡ Some z)
  has_in true y ys z h = (suc h.0, h.1)
  has_in false y ys z h = h

  has : (n low : ℕ) (ms : List ℕ) (xs : List E) (j : ℕ) (x : E) → slice_get xs j ≡ Some x
      → slice_get ms j ≡ Some n → (i : ℕ)
      × (slice_get (entries_from n low ms xs) i ≡ Some (low + j, x))
  has n low [] xs j x e f = absurd (none-some n f)
  has n low (m ∷ ms) [] j x e f = absurd (none-some x e)
  has n low (m ∷ ms) (y ∷ ys) zero x e f =
      let here : low ≡ low + 0 = omega arith in (
        0,
        ap (λ (b : Bool). slice_get
            (cond b ((low, y) ∷ entries_from n (low + 1) ms ys) (entries_from n (low + 1) ms ys)) 0)
            (eq-eqb n m (sym (same_Some m n f))) ∙ (λ i. Some (here i, same_Some y x e i)),
      )
  has n low (m ∷ ms) (y ∷ ys) (suc j) x e f =
      let there : low + 1 + j ≡ low + suc j = omega arith in
      let h = has n (low + 1) ms ys j x e f in
      has_in (eqb n m) (low, y) (entries_from n (low + 1) ms ys) (low + suc j, x)
      (h.0, h.1 ∙ ap (λ (k : ℕ). Some (k, x)) there)

  rises_in : (b : Bool) (low : ℕ) (y : E) (ys : List (ℕ × E))
      → ((i k : ℕ) (x : E) → slice_get ys i ≡ Some (k, x) → low < k)
      → ((i j k m : ℕ) (x z : E) → i < j → slice_get ys i ≡ Some (k, x) → slice_get ys j
      ≡ Some (m, z) → k < m)
      → (i j k m : ℕ) (x z : E) → i < j → slice_get (cond b ((low, y) ∷ ys) ys) i ≡ Some (k, x)
      → slice_get (cond b ((low, y) ∷ ys) ys) j ≡ Some (m, z) → k < m
  rises_in true low y ys above rest i zero k m x z before e f = absurd (omega arith)
  rises_in true low y ys above rest zero (suc j) k m x z before e f =
      let at : low ≡ k = (some_pair_parts low k y x e).0 in let more = above j m z f in omega arith
  rises_in true low y ys above rest (suc i) (suc j) k m x z before e f =
      rest i j k m x z (omega arith) e f
  rises_in false low y ys above rest i j k m x z before e f = rest i j k m x z before e f

  rises : (n low : ℕ) (ms : List ℕ) (xs : List E) (i j k m : ℕ) (x z : E) → i < j
      → slice_get (entries_from n low ms xs) i ≡ Some (k, x)
      → slice_get (entries_from n low ms xs) j
      ≡ Some (m, z) → k < m
  unfolding Stands
  rises n low [] xs i j k m x z before e f = absurd (none-some (k, x) e)
  rises n low (p ∷ ms) [] i j k m x z before e f = absurd (none-some (k, x) e)
  rises n low (p ∷ ms) (y ∷ ys) i j k m x z before e f =
      rises_in (eqb n p) low y (entries_from n (low + 1) ms ys) (above n low ms ys)
      (λ i j k m x z before e f. rises n (low + 1) ms ys i j k m x z before e f) i j k m x z
      before e f
    where
      above : (n low : ℕ) (ms : List ℕ) (ys : List E) (i k : ℕ) (x : E)
          → slice_get (entries_from n (low + 1) ms ys) i ≡ Some (k, x) → low < k
      above n low ms ys i k x e = let s = (stands n (low + 1) ms ys i k x e).1 in omega arith

  -- an own entry is in the list at its index, and has the pass's number there
  pub own_stands : (g : Grown E) (p : Passed E) → HasItsOwn g p → (i k : ℕ) (x : E)
      → slice_get p.mine i ≡ Some (k, x)
      → (slice_get g.list k ≡ Some x) × (slice_get g.numbers k ≡ Some p.number)
  unfolding Stands
  own_stands g p own i k x e =
      let s = stands p.number 0 g.numbers g.list i k x (ap (λ (l : List (ℕ × E)). slice_get l i) own
      ∙ e) in
      let at : s.0 ≡ k = omega (arith, s.1) in
      (ap (slice_get g.list) (sym at) ∙ s.2, ap (slice_get g.numbers) (sym at) ∙ s.3)

  -- an entry with the pass's number is one of its own
  pub own_has : (g : Grown E) (p : Passed E) → HasItsOwn g p → (k : ℕ) (x : E) → slice_get g.list k
      ≡ Some x → slice_get g.numbers k ≡ Some p.number
      → (i : ℕ) × (slice_get p.mine i ≡ Some (k, x))
  own_has g p own k x e f =
      let h = has p.number 0 g.numbers g.list k x e f in
      let place : 0 + k ≡ k = omega arith in (
        h.0,
        ap (λ (l : List (ℕ × E)). slice_get l h.0) (sym own) ∙ h.1
            ∙ ap (λ (j : ℕ). Some (j, x)) place,
      )

  -- the indices of the own entries increase
  pub own_rises : (g : Grown E) (p : Passed E) → HasItsOwn g p → (i j k m : ℕ) (x y : E) → i < j
      → slice_get p.mine i ≡ Some (k, x) → slice_get p.mine j ≡ Some (m, y) → k < m
  own_rises g p own i j k m x y before e f =
      rises p.number 0 g.numbers g.list i j k m x y before
      (ap (λ (l : List (ℕ × E)). slice_get l i) own ∙ e)
      (ap (λ (l : List (ℕ × E)). slice_get l j) own ∙ f)
