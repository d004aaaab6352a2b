-- Prefixes of lists.
use Rattle.std.proofs.Common.{◌≡◌, ◌≤◌, ℕ, zero, suc, Some, List, [], ◌∷◌, ◌++◌, length, cond, ltb, true, false, refl, sym, ap, ◌∙◌, arith, length-append}
use mathlib.Core.List.{IsPrefix}
use Rattle.std.proofs.Math.ListN.{take}
use Rattle.std.specs.Prelude.{slice_get}
use Rattle.std.proofs.lemmas.Option.{none-some}
use Rattle.std.proofs.lemmas.List.{append-nil, append_assoc, nil_from_length, take-append-le}
use Rattle.grow_list.specs.Views.{longest}

module _ {X : Type 0} where
  pub prefix_none : (ys : List X) → IsPrefix [] ys
  prefix_none ys = (ys, refl)

  pub prefix_refl : (xs : List X) → IsPrefix xs xs
  prefix_refl xs = ([], append-nil xs)

  pub prefix_append : (xs ys : List X) → IsPrefix xs (xs ++ ys)
  prefix_append xs ys = (ys, refl)

  pub prefix_same : (xs ys : List X) → xs ≡ ys → IsPrefix xs ys
  prefix_same xs ys e = ([], append-nil xs ∙ e)

  pub prefix_trans : (xs ys zs : List X) → IsPrefix xs ys → IsPrefix ys zs → IsPrefix xs zs
  prefix_trans xs ys zs a b =
      (a.0 ++ b.0, sym (append_assoc xs a.0 b.0) ∙ ap (λ (l : List X). l ++ b.0) a.1 ∙ b.1)

  pub prefix_length : (xs ys : List X) → IsPrefix xs ys → length xs ≤ length ys
  prefix_length xs ys a = omega (arith, length-append xs a.0, ap length a.1)

  -- of two prefixes of a list, the shorter is a prefix of the longer
  pub prefix_compare : (xs ys zs : List X) → IsPrefix xs zs → IsPrefix ys zs → length xs ≤ length ys
      → IsPrefix xs ys
  prefix_compare [] ys zs a b short = (ys, refl)
  prefix_compare (x ∷ xs) [] zs a b short = absurd (omega arith)
  prefix_compare (x ∷ xs) (y ∷ ys) [] a b short = let e = a.1 in absurd (cc)
  prefix_compare (x ∷ xs) (y ∷ ys) (z ∷ zs) a b short =
      let e = a.1 in
      let f = b.1 in
      let e' : xs ++ a.0 ≡ zs = cc in
      let f' : ys ++ b.0 ≡ zs = cc in
      let r = prefix_compare xs ys zs (a.0, e') (b.0, f') (omega arith) in
      let t : xs ++ r.0 ≡ ys = r.1 in
      let h : x ≡ y = cc in
      (r.0, (λ i. h i ∷ t i))

  -- a prefix that isn't shorter is the whole list
  pub prefix_whole : (xs ys : List X) → IsPrefix xs ys → length ys ≤ length xs → xs ≡ ys
  prefix_whole xs ys a long =
      let none : length a.0 ≡ 0 = omega (arith, length-append xs a.0, ap length a.1) in
      sym (append-nil xs) ∙ ap (λ (l : List X). xs ++ l) (sym (nil_from_length a.0 none)) ∙ a.1

  pub prefix_both : (xs ys : List X) → IsPrefix xs ys → IsPrefix ys xs → xs ≡ ys
  prefix_both xs ys a b = prefix_whole xs ys a (prefix_length ys xs b)

  pub prefix_longest : (xs ys zs : List X) → IsPrefix xs zs → IsPrefix ys zs
      → IsPrefix (longest xs ys) zs
  prefix_longest xs ys zs a b =
      elim (ltb (length xs) (length ys)) as (λ t. IsPrefix (cond t ys xs) zs)
      [ true ↦ b | false ↦ a ]

  -- an element of a prefix is at the same index in the whole list
  pub prefix_get : (xs ys : List X) (k : ℕ) (x : X) → IsPrefix xs ys → slice_get xs k ≡ Some x
      → slice_get ys k ≡ Some x
  prefix_get [] ys k x a e = absurd (none-some x e)
  prefix_get (y ∷ xs) [] k x a e = let s = a.1 in absurd (cc)
  prefix_get (y ∷ xs) (z ∷ ys) zero x a e = let s = a.1 in let same : y
      ≡ z = cc in ap Some (sym same) ∙ e
  prefix_get (y ∷ xs) (z ∷ ys) (suc k) x a e = let s = a.1 in let rest : xs ++ a.0 ≡ ys =
      cc in prefix_get xs ys k x
      (a.0, rest) e

  -- a prefix and the whole have the same first elements
  pub prefix_take : (xs ys : List X) (k : ℕ) → IsPrefix xs ys → k ≤ length xs → take k ys
      ≡ take k xs
  prefix_take xs ys k a within = ap (take k) (sym a.1) ∙ take-append-le k xs a.0 within
