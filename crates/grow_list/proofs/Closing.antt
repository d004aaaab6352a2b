-- The passes of a list, one for each number: each index of the list belongs to one pass.
use Rattle.std.proofs.Common.{◌≡◌, ◌≢◌, ℕ, zero, suc, ◌+◌, ◌<◌, ◌≤◌, ◌==◌, List, [], ◌∷◌, ◌++◌, length, get_or, Some, Bool, true, false, cond, ◌||◌, eqb, refl, sym, ap, ◌∙◌, subst, ⊎_elim, arith, eq-eqb, ne_eqb, length-append}
use Rattle.std.specs.Prelude.{All, count_by, slice_get}
use Rattle.std.proofs.lemmas.Bool.{cases_eq, cases_lt}
use Rattle.std.proofs.lemmas.Option.{same_Some, slice_get_within, get_or_from_slice_get}
use Rattle.std.proofs.lemmas.List.Elements.{All-cons, All-head, All-tail, All-get_or, All-weaker, All-same}
use Rattle.std.proofs.lemmas.List.{append-nil, nil_from_length}
use Rattle.std.proofs.lemmas.List.Sums.{sum_by-cons}
use Rattle.grow_list.specs.Entries.{entries_from, entries_of, has_place}
use Rattle.grow_list.specs.Shown.{ListName, Grown, Passed, HasItsOwn, HasEach, Accounts, fresh}
use Rattle.grow_list.specs.Views.{listed, entries_in}
use Rattle.grow_list.specs.declared.views.SeatView.{SeatView}
use Rattle.grow_list.specs.Meetings.{Tallies}
use Rattle.grow_list.specs.Steps.{IsComplete}
use Rattle.grow_list.specs.declared.views.Listed.{Listed}
use Rattle.grow_list.specs.declared.views.Held.{Held}
use mathlib.Core.List.{IsPrefix}
use Rattle.grow_list.proofs.Own.{slice_get-before, slice_get-push}

module _ {E : Type 0} where
  absent_in : (b : Bool) (k low : ℕ) (y : E) (ys : List (ℕ × E)) → k < low → has_place k ys ≡ false
      → has_place k (cond b ((low, y) ∷ ys) ys) ≡ false
  absent_in true k low y ys before rest =
      ap (λ (t : Bool). t || has_place k ys) (ne_eqb low k (λ e. absurd (omega arith))) ∙ rest
  absent_in false k low y ys before rest = rest

  -- no entry has an index below the first one
  absent : (k n low : ℕ) (ms : List ℕ) (xs : List E) → k < low
      → has_place k (entries_from n low ms xs) ≡ false
  absent k n low [] xs before = refl
  absent k n low (m ∷ ms) [] before = refl
  absent k n low (m ∷ ms) (x ∷ xs) before =
      absent_in (eqb n m) k low x (entries_from n (low + 1) ms xs) before
      (absent k n (low + 1) ms xs (omega arith))

  first_place : (b : Bool) (k low : ℕ) (y : E) (ys : List (ℕ × E)) → low ≡ k → has_place k ys
      ≡ false → has_place k (cond b ((low, y) ∷ ys) ys) ≡ b
  first_place true k low y ys here rest = ap (λ (t : Bool). t || has_place k ys) (eq-eqb low k here)
  first_place false k low y ys here rest = rest

  later_place : (b : Bool) (k low : ℕ) (y : E) (ys : List (ℕ × E)) → low ≢ k
      → has_place k (cond b ((low, y) ∷ ys) ys) ≡ has_place k ys
  later_place true k low y ys other = ap (λ (t : Bool). t || has_place k ys) (ne_eqb low k other)
  later_place false k low y ys other = refl

  has_place_from : (n low : ℕ) (ms : List ℕ) (xs : List E) (j : ℕ) → length ms ≡ length xs
      → j < length xs → has_place (low + j) (entries_from n low ms xs) ≡ eqb n (get_or ms j 0)
  has_place_from n low [] [] j even within = absurd (omega arith)
  has_place_from n low [] (x ∷ xs) j even within = absurd (omega arith)
  has_place_from n low (m ∷ ms) [] j even within = absurd (omega arith)
  has_place_from n low (m ∷ ms) (x ∷ xs) zero even within =
      first_place (eqb n m) (low + 0) low x (entries_from n (low + 1) ms xs) (omega arith)
      (absent (low + 0) n (low + 1) ms xs (omega arith))
  has_place_from n low (m ∷ ms) (x ∷ xs) (suc j) even within =
      let place : low + suc j ≡ low + 1 + j = omega arith in
      later_place (eqb n m) (low + suc j) low x (entries_from n (low + 1) ms xs)
      (λ e. absurd (omega arith))
      ∙ ap (λ (k : ℕ). has_place k (entries_from n (low + 1) ms xs)) place
      ∙ has_place_from n (low + 1) ms xs j (omega arith) (omega arith)

  -- the entry at index k belongs to the pass n exactly if its number is n
  pub has_place-entries : (n k : ℕ) (ms : List ℕ) (xs : List E) → length ms ≡ length xs
      → k < length xs → has_place k (entries_of n ms xs) ≡ eqb n (get_or ms k 0)
  has_place-entries n k ms xs even within =
      let place : k ≡ 0 + k = omega arith in
      ap (λ (j : ℕ). has_place j (entries_of n ms xs)) place
      ∙ has_place_from n 0 ms xs k even within

one_at : (a b : ℕ) → a ≡ b → ◌≡◌ {A = ℕ} (cond (eqb a b) 1 0) 1
one_at a b e = ap (λ (t : Bool). cond t 1 0) (eq-eqb a b e)

none_at : (a b : ℕ) → a ≢ b → ◌≡◌ {A = ℕ} (cond (eqb a b) 1 0) 0
none_at a b ne = ap (λ (t : Bool). cond t 1 0) (ne_eqb a b ne)

-- two tests that agree on each element give the same count
pub count_by-same : {X : Type 0} (p q : X → Bool) (xs : List X) → All (λ x. p x ≡ q x) xs
    → count_by p xs ≡ count_by q xs
count_by-same p q [] same = refl
count_by-same p q (x ∷ xs) same =
    let rest = count_by-same p q xs (All-tail (λ y. p y ≡ q y) x xs same) in
    sum_by-cons (λ y. cond (p y) 1 0) x xs
    ∙ plus (ap (λ (b : Bool). cond b 1 0) (All-head (λ y. p y ≡ q y) x xs same)) rest
    ∙ sym (sum_by-cons (λ y. cond (q y) 1 0) x xs)
  where
    plus : {a b c d : ℕ} → a ≡ b → c ≡ d → a + c ≡ b + d
    plus e f = λ i. e i + f i

-- if no item is left, a fact about each item that was yielded holds for all items
pub All-yielded : {X : Type 0} (P : X → Type 0) (items yielded rest : List X) → items ≡ yielded
    ++ rest → length rest ≡ 0 → All P yielded → All P items
All-yielded P items yielded rest split none all =
    All-same P items yielded (split ∙ ap (λ xs. yielded ++ xs) (nil_from_length rest none)
    ∙ append-nil yielded) all

module _ {E : Type 0} where
  count_numbers : (n low : ℕ) (passes : List (Passed E))
      → ((k : ℕ) (p : Passed E) → slice_get passes k ≡ Some p → p.number ≡ low + k)
      → (n < low → count_by (λ p. p.number == n) passes ≡ 0)
      × (low ≤ n → n < low + length passes → count_by (λ p. p.number == n) passes ≡ 1)
  count_numbers n low [] numbered = ((λ before. refl), (λ from to. absurd (omega arith)))
  count_numbers n low (p ∷ ps) numbered =
      let rest = count_numbers n (low + 1) ps (λ k q e. let is = numbered (suc k) q e
      in omega arith) in
      let first : p.number ≡ low = (let is = numbered 0 p refl in omega arith) in
      let count = sum_by-cons (λ (q : Passed E). cond (eqb q.number n) 1 0) p ps in (
        (λ before. let r = rest.0 (omega arith) in let t =
            none_at p.number n
            (λ e. absurd (omega arith))
            in omega arith),
        (λ from to. ⊎_elim
            (λ (e : low ≡ n). let r = rest.0 (omega arith) in let t = one_at p.number n (first ∙ e)
            in omega arith)
            (λ (ne : low ≢ n). let r = rest.1 (omega arith) (omega arith) in let t =
            none_at p.number
            n (λ e. ne (sym
            first ∙ e)) in
            omega arith)
            (cases_eq low n)),
      )

  -- if the k-th of the passes of this list has the number k, each number occurs once
  pub each_in_order : (g : Grown E) (passes : List (Passed E)) → length passes ≡ g.callers
      → All (λ p. p.name ≡ g.name) passes
      → ((k : ℕ) (p : Passed E) → slice_get passes k ≡ Some p → p.number ≡ k) → HasEach g passes
  each_in_order g passes count of_list numbered = record {
    of_list = of_list;
    one_each = λ n below.
        (count_numbers n 0 passes (λ k p e. let is = numbered k p e in omega arith)).1 (omega arith)
        (omega arith);
  }

  -- if the owner's pass has the number 0, and the k-th of the others has the number k + 1, each
  -- number occurs once
  pub each_after_own : (g : Grown E) (own : Passed E) (passes : List (Passed E)) → length passes + 1
      ≡ g.callers → own.name ≡ g.name → own.number ≡ 0
      → All (λ p. p.name ≡ g.name) passes
      → ((k : ℕ) (p : Passed E) → slice_get passes k ≡ Some p → p.number ≡ k + 1)
      → HasEach g (own ∷ passes)
  each_after_own g own passes count name number of_list numbered =
      each_in_order g (own ∷ passes) (omega (arith, count))
      (All-cons (λ p. p.name ≡ g.name) own passes name of_list) at
    where
      at : (k : ℕ) (p : Passed E) → slice_get (own ∷ passes) k ≡ Some p → p.number ≡ k
      at zero p e = ap (λ (q : Passed E). q.number) (sym (same_Some own p e)) ∙ number
      at (suc k) p e = let is = numbered k p e in omega (arith, is)

  -- fresh passes stay fresh when the next one joins them, also under an equal name
  pub fresh_pushed : (old new : ListName) (number : ℕ) (passes : List (Passed E)) → new ≡ old
      → length passes ≡ number
      → ((k : ℕ) → k < length passes → slice_get passes k ≡ Some (fresh old k)) → (k : ℕ)
      → k < length (passes ++ fresh old number ∷ [])
      → slice_get (passes ++ fresh old number ∷ []) k ≡ Some (fresh new k)
  fresh_pushed old new number passes name count each k within =
      ⊎_elim
      (λ (before : k < length passes). slice_get-before passes (fresh old number) k before
      ∙ each k before)
      (λ (past : length passes ≤ k). let last : k ≡ length passes =
      omega (arith, length-append passes (fresh old number ∷ [])) in
      ap (slice_get (passes ++ fresh old number ∷ [])) last
      ∙ slice_get-push passes (fresh old number)
      ∙ ap (λ (n : ℕ). Some (fresh old n)) (sym (last ∙ count)))
      (cases_lt k (length passes))
      ∙ ap (λ (n : ListName). Some (fresh n k)) (sym name)

  -- fresh passes in the order of their numbers are one for each number
  pub fresh_in_order : (g : Grown E) (passes : List (Passed E)) → length passes ≡ g.callers
      → ((k : ℕ) → k < length passes → slice_get passes k ≡ Some (fresh g.name k))
      → HasEach g passes
  fresh_in_order g passes count each =
      each_in_order g passes count
      (λ k d below. ap (λ (p : Passed E). p.name)
      (get_or_from_slice_get passes k (fresh g.name k) d (each k below)))
      (λ k p e. ap (λ (q : Passed E). q.number)
      (same_Some p (fresh g.name k) (sym e ∙ each k (slice_get_within passes k p e))))

  -- a pass that the list has met accounts for what it saw and added
  pub accounts : (l : Listed E) (p : Passed E) (h : Held E) → p.number ≡ h.number → p.seen ≡ h.seen
      → p.mine ≡ h.mine → Tallies l h → Accounts l p
  accounts l p h number seen mine t = (
    subst (λ (x : List E). IsPrefix x l.list) (sym seen) t.seen,
    ap (λ (n : ℕ). entries_in n l) number ∙ t.own ∙ sym mine,
  )

  -- a pass that agrees with a view agrees with an equal view
  pub tallies_at : (v w : SeatView E) (h : Held E) → v ≡ w → Tallies (listed v) h
      → Tallies (listed w) h
  tallies_at v w h e t = subst (λ (x : SeatView E). Tallies (listed x) h) e t

  pub accounts_at : (v w : SeatView E) (passes : List (Passed E)) → v ≡ w
      → All (Accounts (listed v)) passes → All (Accounts (listed w)) passes
  accounts_at v w passes e all = subst (λ (x : SeatView E). All (Accounts (listed x)) passes) e all

  -- the list begins with what each pass saw
  pub all_saw : (g : Grown E) (l : Listed E) (passes : List (Passed E)) → l.list ≡ g.list
      → All (Accounts l) passes → All (λ p. IsPrefix p.seen g.list) passes
  all_saw g l passes list all =
      All-weaker (Accounts l) (λ p. IsPrefix p.seen g.list)
      (λ p a. subst (λ (xs : List E). IsPrefix p.seen xs) list a.0) passes all

  -- the list's entries with each pass's number are its own
  pub all_own : (g : Grown E) (l : Listed E) (passes : List (Passed E)) → l.list ≡ g.list
      → l.numbers ≡ g.numbers → All (Accounts l) passes → All (λ p. HasItsOwn g p) passes
  all_own g l passes list numbers all =
      All-weaker (Accounts l) (λ p. HasItsOwn g p)
      (λ p a. (λ i. entries_of p.number (sym numbers i) (sym list i)) ∙ a.1) passes all

  -- each index of the list belongs to exactly one pass
  pub places : (g : Grown E) (l : Listed E) (passes : List (Passed E)) → l.list ≡ g.list → l.numbers
      ≡ g.numbers → l.callers ≡ g.callers → IsComplete l → HasEach g passes
      → All (Accounts l) passes
      → (k : ℕ) → k < length g.list → count_by (λ p. has_place k p.mine) passes ≡ 1
  places g l passes list numbers callers complete each all k within =
      let n = get_or g.numbers k 0 in
      let own = all_own g l passes list numbers all in
      let even : length g.numbers ≡ length g.list = ap length (sym numbers) ∙ complete.even
      ∙ ap length list in
      let below : All (λ m. m < g.callers) g.numbers =
      subst (λ (x : ℕ × List ℕ). All (λ m. m < x.0) x.1) (λ i. (callers i, numbers i))
      complete.below in
      count_by-same (λ p. has_place k p.mine) (λ p. eqb p.number n) passes
      (All-weaker (λ p. HasItsOwn g p) (λ p. has_place k p.mine ≡ eqb p.number n)
      (λ p mine. ap (has_place k) (sym mine)
      ∙ has_place-entries p.number k g.numbers g.list even within) passes own)
      ∙ each.one_each n (All-get_or (λ m. m < g.callers) g.numbers k 0 (omega arith) below)
