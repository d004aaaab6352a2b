-- The owner's pass and the other passes.
use Rattle.std.proofs.Common.{◌≡◌, ℕ, suc, add-one, ◌+◌, ◌<◌, ◌==◌, Bool, false, cond, List, [], ◌∷◌, length, All, get_or, Some, refl, ap, subst, sym, ◌∙◌, arith, ◌⊎◌, inl, inr, eq-eqb, ne_eqb}
use Rattle.std.proofs.lemmas.Bool.{cases_eq}
use Rattle.std.proofs.lemmas.List.Elements.{All-cons, All-tail}
use Rattle.std.proofs.lemmas.List.Sums.{sum_by-cons}
use Rattle.std.proofs.lemmas.Option.{get_or_from_slice_get, none-some, same_Some}
use Rattle.std.specs.List.{remove}
use Rattle.std.specs.Prelude.{count_by, slice_get}
use Rattle.grow_list.specs.Others.{HasOthers, beside_own}
use Rattle.grow_list.specs.Shown.{Grown, HasEach, ListName, Passed, fresh}
use Rattle.grow_list.specs.Entries.{has_place}
use Rattle.grow_list.proofs.Closing.{each_after_own}

-- the number 1 or 0, for true or false
abbrev pub bit : Bool → ℕ
bit b = cond b 1 0

-- there is one pass for each number, and the owner's has the number 0
pub beside : (n : ℕ) → bit (0 == n) + beside_own n ≡ 1
beside n = at (cases_eq 0 n) where
  at : (0 ≡ n) ⊎ (0 ≡ n → ⊥) → bit (0 == n) + beside_own n ≡ 1
  at (inl is) = (λ i. bit (eq-eqb 0 n is i) + cond (eq-eqb n 0 (sym is) i) 0 1)
  at (inr not) = (λ i. bit (ne_eqb 0 n not i) + cond (ne_eqb n 0 (λ e. not (sym e)) i) 0 1)

-- the count of a list is that of its first item plus that of the rest
pub count_by-cons : {X : Type 0} (test : X → Bool) (x : X) (xs : List X)
    → count_by test (x ∷ xs) ≡ bit (test x) + count_by test xs
count_by-cons test x xs = sum_by-cons (λ y. cond (test y) 1 0) x xs

module _ {E : Type 0} where
  -- the owner's pass and the others are all passes
  pub HasEach-others : (list g : Grown E) (own : Passed E) (passes : List (Passed E))
      → g.name ≡ list.name → g.callers ≡ list.callers → own.name ≡ list.name → own.number ≡ 0
      → HasOthers g passes → HasEach list (own ∷ passes)
  HasEach-others list g own passes name callers of_list number others = record {
    of_list = All-cons (λ p. p.name ≡ list.name) own passes of_list
        (subst (λ (n : ListName). All (λ p. p.name ≡ n) passes) name others.of_list);
    one_each = λ n below.
        count_by-cons (λ p. p.number == n) own passes
        ∙ (λ i. bit (number i == n) + others.one_each n
        (subst (λ (c : ℕ). n < c) (sym callers) below) i)
        ∙ beside n;
  }

  -- all passes without the owner's are the others
  pub HasOthers-rest : (list g : Grown E) (own : Passed E) (passes : List (Passed E))
      → g.name ≡ list.name → g.callers ≡ list.callers → own.number ≡ 0
      → HasEach list (own ∷ passes) → HasOthers g passes
  HasOthers-rest list g own passes name callers number each = record {
    of_list = subst (λ (n : ListName). All (λ p. p.name ≡ n) passes) (sym name)
        (All-tail (λ p. p.name ≡ list.name) own passes each.of_list);
    one_each = λ n below.
        let all : count_by (λ p. p.number == n) (own ∷ passes) ≡ 1 =
        each.one_each n (subst (λ (c : ℕ). n < c) callers below) in
        let parts : bit (0 == n) + count_by (λ p. p.number == n) passes ≡ 1 =
        (λ i. bit (sym number i == n) + count_by (λ p. p.number == n) passes)
        ∙ sym (count_by-cons (λ p. p.number == n) own passes) ∙ all in
        omega (arith, parts, beside n);
  }

  -- ---- the owner's pass is the first of those that the list created

  pub first_is : (passes : List (Passed E)) (own p : Passed E) → slice_get passes 0 ≡ Some p
      → own ≡ get_or passes 0 own → own ≡ p
  first_is passes own p is own_is = own_is ∙ get_or_from_slice_get passes 0 p own is

  pub split_first : (passes : List (Passed E)) (own p : Passed E) → slice_get passes 0 ≡ Some p
      → own ≡ p → passes ≡ own ∷ remove passes 0
  split_first [] own p is same = absurd (none-some p is)
  split_first (q ∷ qs) own p is same =
      let one : q ≡ p = same_Some q p is in λ i. (one ∙ sym same) i ∷ qs

  -- the others are fresh, in the order of their numbers
  pub rest_fresh : (passes rest : List (Passed E)) (own : Passed E) (name later : ListName)
      (callers : ℕ)
      → passes ≡ own ∷ rest → length passes ≡ callers → later ≡ name
      → ((k : ℕ) → k < callers → slice_get passes k ≡ Some (fresh name k))
      → (k : ℕ) → k < length rest → slice_get rest k ≡ Some (fresh later (k + 1))
  rest_fresh passes rest own name later callers split count same each k below =
      let longer : length passes ≡ suc (length rest) = ap length split in
      ap (λ (l : List (Passed E)). slice_get l (suc k)) (sym split)
      ∙ each (suc k) (omega (arith, longer, count, below))
      ∙ (λ i. Some (fresh (sym same i) (sym (add-one k) i)))

  -- passes whose numbers are 1, 2 and so on, in this order, are the others
  pub others_in_order : (g : Grown E) (passes : List (Passed E)) → length passes + 1 ≡ g.callers
      → All (λ p. p.name ≡ g.name) passes
      → ((k : ℕ) (p : Passed E) → slice_get passes k ≡ Some p → p.number ≡ k + 1)
      → HasOthers g passes
  others_in_order g passes count of_list numbered =
      HasOthers-rest g g (fresh g.name 0) passes refl refl refl
      (each_after_own g (fresh g.name 0) passes count refl refl of_list numbered)

  -- if the owner's pass has added nothing, each index belongs to one of the others
  pub places-idle : (own : Passed E) (passes : List (Passed E)) (k : ℕ) → own.mine ≡ []
      → count_by (λ p. has_place k p.mine) (own ∷ passes) ≡ 1
      → count_by (λ p. has_place k p.mine) passes ≡ 1
  places-idle own passes k none all =
      let is : has_place k own.mine ≡ false = ap (has_place k) none in
      let parts : bit false + count_by (λ p. has_place k p.mine) passes ≡ 1 =
      (λ i. bit (sym is i) + count_by (λ p. has_place k p.mine) passes)
      ∙ sym (count_by-cons (λ p. has_place k p.mine) own passes) ∙ all in
      omega (arith, parts)
