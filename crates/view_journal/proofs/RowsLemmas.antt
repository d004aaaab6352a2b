-- Bars of one row don't overlap.
use Rattle.std.proofs.Common.{◌≡◌, ◌≢◌, ℕ, zero, suc, ◌<◌, ◌≤◌, ◌==◌, List, [], ◌∷◌, ◌++◌, length, Some, refl, ap, ◌∙◌, subst, arith, inl, inr}
use Rattle.std.specs.Prelude.{nat_lt, slice_get}
use Rattle.std.proofs.Math.ListN.{set}
use Rattle.std.proofs.lemmas.Bool.{cases_Bool, eqb-false, eqb-true, ltb-true}
use Rattle.view_journal.specs.declared.frame.Extent.{Extent}
use Rattle.view_journal.specs.Frame.{AreInOrder, BeginAfter, ends_with, first_free, rows_from}
use Rattle.view_journal.specs.Promises.{BarsDontOverlap}

-- the last bar of the first free row ended before
free_row_ended : (from : ℕ) (ends : List ℕ) (e : ℕ)
    → slice_get ends (first_free from ends) ≡ Some e → e < from
free_row_ended from [] e h = absurd (cc h)
free_row_ended from (x ∷ ends) e h =
    elim (cases_Bool (nat_lt x from)) [
      | inl t ↦
          let here : Some x ≡ Some e = rw t at h in
          let same : x ≡ e = cc here in
          let lt : x < from = ltb-true x from t in
          omega (arith, same, lt)
      | inr f ↦
          let there : slice_get ends (first_free from ends) ≡ Some e = rw f at h in
          free_row_ended from ends e there
    ]

-- the new bar is the last one of that row
end_of_same : (from to : ℕ) (ends : List ℕ)
    → slice_get (ends_with from to ends) (first_free from ends) ≡ Some to
end_of_same from to [] = refl
end_of_same from to (x ∷ ends) =
    elim (cases_Bool (nat_lt x from)) [
      | inl t ↦ rw t refl
      | inr f ↦ rw f (end_of_same from to ends)
    ]

-- the other rows stay as they are
end_of_other : (from to : ℕ) (ends : List ℕ) (r : ℕ) → r ≢ first_free from ends
    → slice_get (ends_with from to ends) r ≡ slice_get ends r
end_of_other from to [] zero n = absurd (n refl)
end_of_other from to [] (suc r) n = refl
end_of_other from to (x ∷ ends) zero n =
    elim (cases_Bool (nat_lt x from)) [
      | inl t ↦ let not_here : zero ≢ 0 = rw t at n in absurd (not_here refl)
      | inr f ↦ rw f refl
    ]
end_of_other from to (x ∷ ends) (suc r) n =
    elim (cases_Bool (nat_lt x from)) [
      | inl t ↦ rw t refl
      | inr f ↦
          let not_there : suc r ≢ suc (first_free from ends) = rw f at n in
          rw f (end_of_other from to ends r (λ e. not_there (ap suc e)))
    ]

begins_after : (from : ℕ) (ss : List Extent) (k : ℕ) (s : Extent) → BeginAfter from ss
    → slice_get ss k ≡ Some s → from ≤ s.from
begins_after from [] k s o h = absurd (cc h)
begins_after from (x ∷ ss) zero s o h =
    let same : x ≡ s = cc h in subst (λ (y : Extent). from ≤ y.from) same o.0
begins_after from (x ∷ ss) (suc k) s o h = begins_after from ss k s o.1 h

-- a bar begins after the end of its row
later : (ss : List Extent) (ends : List ℕ) → AreInOrder ss → (k r e : ℕ) (s : Extent)
    → slice_get ss k ≡ Some s → slice_get (rows_from ends ss) k ≡ Some r
    → slice_get ends r ≡ Some e → e < s.from
later [] ends o k r e s is row end = absurd (cc is)
later (x ∷ ss) ends o zero r e s is row end =
    let same : x ≡ s = cc is in
    let here : r ≡ first_free x.from ends = cc row in
    subst (λ (y : Extent). e < y.from) same
    (free_row_ended x.from ends e
    (subst (λ (q : ℕ). slice_get ends q ≡ Some e) here end))
later (x ∷ ss) ends o (suc k) r e s is row end =
    elim (cases_Bool (r == first_free x.from ends)) [
      | inl t ↦
          let here : r ≡ first_free x.from ends = eqb-true r (first_free x.from ends) t in
          let before : e < x.from = free_row_ended x.from ends e
          (subst (λ (q : ℕ). slice_get ends q ≡ Some e) here end) in
          omega (arith, before, begins_after x.from ss k s o.0 is)
      | inr f ↦
          let other : r ≢ first_free x.from ends = eqb-false r (first_free x.from ends) f in
          later ss (ends_with x.from x.to ends) o.1 k r e s is row
          (end_of_other x.from x.to ends r other ∙ end)
    ]

apart : (ss : List Extent) (ends : List ℕ) → AreInOrder ss → (i j r : ℕ) (a b : Extent) → i < j
    → slice_get ss i ≡ Some a → slice_get ss j ≡ Some b
    → slice_get (rows_from ends ss) i ≡ Some r → slice_get (rows_from ends ss) j ≡ Some r
    → a.to < b.from
apart [] ends o i j r a b lt is_a is_b row_a row_b = absurd (cc is_a)
apart (x ∷ ss) ends o zero zero r a b lt is_a is_b row_a row_b = absurd (omega (arith, lt))
apart (x ∷ ss) ends o (suc i) zero r a b lt is_a is_b row_a row_b = absurd (omega (arith, lt))
apart (x ∷ ss) ends o zero (suc j) r a b lt is_a is_b row_a row_b =
    let same : x ≡ a = cc is_a in
    let here : first_free x.from ends ≡ r = cc row_a in
    subst (λ (y : Extent). y.to < b.from) same
    (later ss (ends_with x.from x.to ends) o.1 j r x.to b is_b row_b
    (subst (λ (q : ℕ). slice_get (ends_with x.from x.to ends) q ≡ Some x.to) here
    (end_of_same x.from x.to ends)))
apart (x ∷ ss) ends o (suc i) (suc j) r a b lt is_a is_b row_a row_b =
    apart ss (ends_with x.from x.to ends) o.1 i j r a b (omega (arith, lt)) is_a is_b row_a row_b

pub bars_dont_overlap : BarsDontOverlap
bars_dont_overlap spans i j row a b o lt is_a is_b row_a row_b =
    apart spans [] o i j row a b lt is_a is_b row_a row_b

-- ---- the code's loop

-- a row that isn't new
pub ends_with_set : (from to : ℕ) (ends : List ℕ) → first_free from ends < length ends
    → ends_with from to ends ≡ set ends (first_free from ends) to
ends_with_set from to [] h = absurd (omega (arith, h))
ends_with_set from to (e ∷ ends) h =
    elim (cases_Bool (nat_lt e from)) [
      | inl t ↦ rw t refl
      | inr f ↦
          let on : suc (first_free from ends) < length (e ∷ ends) = rw f at h in
          let in_rest : first_free from ends < length ends = omega (arith, on) in
          rw f (ap (λ xs. e ∷ xs) (ends_with_set from to ends in_rest))
    ]

-- a new row
pub ends_with_new : (from to : ℕ) (ends : List ℕ) → length ends ≤ first_free from ends
    → ends_with from to ends ≡ ends ++ to ∷ []
ends_with_new from to [] h = refl
ends_with_new from to (e ∷ ends) h =
    elim (cases_Bool (nat_lt e from)) [
      | inl t ↦
          let on : length (e ∷ ends) ≤ 0 = rw t at h in absurd (omega (arith, on))
      | inr f ↦
          let on : length (e ∷ ends) ≤ suc (first_free from ends) = rw f at h in
          let in_rest : length ends ≤ first_free from ends = omega (arith, on) in
          rw f (ap (λ xs. e ∷ xs) (ends_with_new from to ends in_rest))
    ]
