-- Passes of one list, each with its number, and none with an entry of its own.
use Rattle.std.proofs.Common.{◌≡◌, ℕ, ◌+◌, ◌<◌, ◌≤◌, List, [], ◌∷◌, length, refl, ap, sym, subst, ◌∙◌, arith, Some, suc, zero}
use Rattle.std.specs.Prelude.{All, drop, max, slice_get, take}
use Rattle.std.proofs.lemmas.List.{length-drop, length-take-le}
use Rattle.std.proofs.Math.Nat.{le-max_right}
use Rattle.std.proofs.lemmas.Option.{same_Some, slice_get_within}
use Rattle.grow_list.specs.Shown.{ListName, Passed, fresh}
use Rattle.world_close.proofs.Gets.{all_by_get}
use Rattle.world_start.specs.Started.{AreFresh}

-- ---- parts of a list

module _ {A : Type 0} where
  get_drop : (n : ℕ) (xs : List A) (k : ℕ) → slice_get (drop n xs) k ≡ slice_get xs (n + k)
  get_drop zero xs k = ap (slice_get xs) (let e : k ≡ 0 + k = omega arith in e)
  get_drop (suc n) [] k = refl
  get_drop (suc n) (x ∷ xs) k =
      get_drop n xs k
      ∙ ap (slice_get (x ∷ xs)) (let e : suc (n + k) ≡ suc n + k = omega arith in e)

  get_take : (n : ℕ) (xs : List A) (k : ℕ) → k < length (take n xs)
      → slice_get (take n xs) k ≡ slice_get xs k
  get_take zero xs k b = absurd (omega arith)
  get_take (suc n) [] k b = absurd (omega arith)
  get_take (suc n) (x ∷ xs) zero b = refl
  get_take (suc n) (x ∷ xs) (suc k) b = get_take n xs k (omega arith)

-- the first passes are fresh
pub fresh_take : {E : Type 0} (name : ListName) (number : ℕ → ℕ) (m n : ℕ)
    (passes first : List (Passed E)) → m ≤ n → first ≡ take m passes
    → AreFresh name number n passes → AreFresh name number m first
fresh_take {E} name number m n passes first below is f =
    subst (λ (l : List (Passed E)). AreFresh name number m l) (sym is) (record {
      even = len;
      each = λ k b.
          get_take m passes k b ∙ f.each k (let e = f.even in let n = len in omega arith);
    }) where
      len : length (take m passes) ≡ m
      len = length-take-le m passes (subst (λ (k : ℕ). m ≤ k) (sym f.even) below)

-- the passes after the first ones are fresh
pub fresh_drop : {E : Type 0} (name : ListName) (number : ℕ → ℕ) (m n count : ℕ)
    (passes rest : List (Passed E)) → n ≡ m + count → rest ≡ drop m passes
    → AreFresh name number n passes → AreFresh name (λ k. number (m + k)) count rest
fresh_drop {E} name number m n count passes rest all is f =
    subst (λ (l : List (Passed E)). AreFresh name (λ k. number (m + k)) count l) (sym is) (record {
      even = let e = length-drop m passes in let g = f.even in omega arith;
      each = λ k b.
          get_drop m passes k
          ∙ f.each (m + k) (let e = length-drop m passes in omega arith);
    })

-- passes that are each fresh and of the right number are all fresh
pub fresh_all : {E : Type 0} (name : ListName) (number : ℕ → ℕ) (count : ℕ)
    (passes : List (Passed E)) → length passes ≡ count
    → ((k : ℕ) → k < count → slice_get passes k ≡ Some (fresh name (number k)))
    → AreFresh name number count passes
fresh_all name number count passes even each = record {
  even = even;
  each = λ k b. each k (subst (λ (n : ℕ). k < n) even b);
}

-- numbers that are equal at each place make the same fresh passes
pub fresh_as : {E : Type 0} (name : ListName) (number other : ℕ → ℕ) (count : ℕ)
    (passes : List (Passed E)) → ((k : ℕ) → number k ≡ other k)
    → AreFresh name number count passes → AreFresh name other count passes
fresh_as {E} name number other count passes same f = record {
  even = f.even;
  each = λ k b. f.each k b ∙ ap (λ (n : ℕ). Some (fresh {E = E} name n)) (same k);
}

-- the greater of 1 and n is at least n
pub below_max : (n : ℕ) → n ≤ max 1 n
below_max n = le-max_right 1 n

-- a fresh pass has no entry of its own
pub unused : {E : Type 0} (name : ListName) (number : ℕ → ℕ) (count : ℕ)
    (passes : List (Passed E)) → AreFresh name number count passes
    → All (λ (q : Passed E). q.mine ≡ []) passes
unused {E} name number count passes f =
    all_by_get (λ (q : Passed E). q.mine ≡ []) passes
    (λ k q at. ap (λ (p : Passed E). p.mine)
    (same_Some q (fresh name (number k))
    (sym at ∙ f.each k (slice_get_within passes k q at))))
