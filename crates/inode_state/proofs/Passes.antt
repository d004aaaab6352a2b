-- Showing a list to passes, one after the other.
use Rattle.std.proofs.Common.{◌≡◌, ℕ, zero, suc, ◌+◌, ◌<◌, ◌==◌, List, [], ◌∷◌, ◌++◌, length, map, take, drop, get_or, All, Some, refl, sym, ◌∙◌, ap, arith}
use Rattle.std.specs.Prelude.{count_by, slice_get, slice_set}
use Rattle.std.proofs.lemmas.List.Elements.{All-cons, All-head, All-nil, All-tail}
use Rattle.std.proofs.lemmas.Option.{same_Some}
use Rattle.grow_list.specs.Shown.{ListName, Passed, fresh}
use Rattle.grow_list.proofs.Others.{bit, count_by-cons}
use Rattle.inode_events.specs.declared.told.Event.{Event}
use Rattle.inode_state.specs.Value.{HasOthers, JournalValue, having_seen, new_pass}

module _ {X : Type 0} (f : X → X) where
  -- the items after the first k were replaced
  abbrev pub done : ℕ → List X → List X
  done k xs = map f (take k xs) ++ drop k xs

  -- item k isn't replaced yet
  pub done_at : (xs : List X) (k : ℕ) (d : X) → get_or (done k xs) k d ≡ get_or xs k d
  done_at [] zero d = refl
  done_at [] (suc k) d = refl
  done_at (x ∷ xs) zero d = refl
  done_at (x ∷ xs) (suc k) d = done_at xs k d

  pub done_more : (xs : List X) (k : ℕ) (p d : X) → k < length xs → p ≡ f (get_or xs k d)
      → slice_set (done k xs) k p ≡ done (suc k) xs
  done_more [] k p d below e = absurd (omega arith)
  done_more (x ∷ xs) zero p d below e = ap (λ (y : X). y ∷ xs) e
  done_more (x ∷ xs) (suc k) p d below e =
      ap (λ (ys : List X). f x ∷ ys) (done_more xs k p d (omega arith) e)

  pub done_length : (xs : List X) (k : ℕ) → length (done k xs) ≡ length xs
  done_length [] zero = refl
  done_length [] (suc k) = refl
  done_length (x ∷ xs) zero = refl
  done_length (x ∷ xs) (suc k) = ap suc (done_length xs k)

  pub done_all : (xs : List X) → done (length xs) xs ≡ map f xs
  done_all [] = refl
  done_all (x ∷ xs) = ap (λ (ys : List X). f x ∷ ys) (done_all xs)

-- ---- the passes of a journal that has shown them its birth

-- after they have seen the list, the passes are still those of the journal, each once
pub HasOthers-seen : (j : JournalValue) (list : List Event) (passes : List (Passed Event))
    → HasOthers j passes → HasOthers j (map (having_seen list) passes)
HasOthers-seen j list passes others = record {
  of_journal = all passes others.of_journal;
  one_each = λ n below. count n passes ∙ others.one_each n below;
} where
  all : (ps : List (Passed Event)) → All (λ p. p.name ≡ j.name) ps
      → All (λ p. p.name ≡ j.name) (map (having_seen list) ps)
  all [] a = All-nil (λ p. p.name ≡ j.name)
  all (p ∷ ps) a = All-cons (λ p. p.name ≡ j.name) (having_seen list p)
      (map (having_seen list) ps) (All-head (λ p. p.name ≡ j.name) p ps a)
      (all ps (All-tail (λ p. p.name ≡ j.name) p ps a))

  count : (n : ℕ) (ps : List (Passed Event))
      → count_by (λ p. p.number == n) (map (having_seen list) ps)
      ≡ count_by (λ p. p.number == n) ps
  count n [] = refl
  count n (p ∷ ps) =
      count_by-cons (λ p. p.number == n) (having_seen list p) (map (having_seen list) ps)
      ∙ ap (λ c. bit (p.number == n) + c) (count n ps)
      ∙ sym (count_by-cons (λ p. p.number == n) p ps)

-- fresh passes, once they have seen the list, are new passes
pub seen_at : (name later : ListName) (list list2 : List Event) (passes : List (Passed Event))
    (k : ℕ) (n : ℕ) → later ≡ name → list2 ≡ list → slice_get passes k ≡ Some (fresh name n)
    → slice_get (map (having_seen list) passes) k ≡ Some (new_pass later list2 n)
seen_at name later list list2 passes k n same shown at =
    got passes k at ∙ (λ i. Some (new_pass (sym same i) (sym shown i) n)) where
      got : (ps : List (Passed Event)) (k : ℕ) → slice_get ps k ≡ Some (fresh name n)
          → slice_get (map (having_seen list) ps) k ≡ Some (new_pass name list n)
      got [] k e = cc
      got (p ∷ ps) zero e = ap (λ q. Some (having_seen list q)) (same_Some p (fresh name n) e)
      got (p ∷ ps) (suc k) e = got ps k e
