-- The first items of a list, and the others.
use Rattle.std.proofs.Common.{◌≡◌, ℕ, ◌<◌, ◌≤◌, List, length, take, drop, sym, ◌∙◌, ap, arith, inl, inr}
use Rattle.std.specs.Prelude.{min, nat_le}
use Rattle.std.proofs.lemmas.Bool.{cases_Bool, leb-false, leb-true}
use Rattle.std.proofs.lemmas.List.{drop_all, take_all}

-- as many as there are, and at most n
pub first_so_many : {A : Type 0} (xs : List A) (n m : ℕ) → m ≡ min (length xs) n
    → take m xs ≡ take n xs
first_so_many {A} xs n m e =
    elim (cases_Bool (nat_le (length xs) n)) [
      | inl t ↦
          let few : length xs ≤ n = leb-true (length xs) n t in
          let all : length xs ≤ m = omega (arith, e, few) in
          take_all m xs all ∙ sym (take_all n xs few)
      | inr f ↦
          let many : n < length xs = leb-false (length xs) n f in
          let same : m ≡ n = omega (arith, e, many) in
          ap (λ (k : ℕ). take k xs) same
    ]

-- and those after them
pub after_so_many : {A : Type 0} (xs : List A) (n m : ℕ) → m ≡ min (length xs) n
    → drop m xs ≡ drop n xs
after_so_many {A} xs n m e =
    elim (cases_Bool (nat_le (length xs) n)) [
      | inl t ↦
          let few : length xs ≤ n = leb-true (length xs) n t in
          let all : length xs ≤ m = omega (arith, e, few) in
          drop_all m xs all ∙ sym (drop_all n xs few)
      | inr f ↦
          let many : n < length xs = leb-false (length xs) n f in
          let same : m ≡ n = omega (arith, e, many) in
          ap (λ (k : ℕ). drop k xs) same
    ]
