-- Ways and orders that are added to a list: one that is met for the first time, and one for which
-- another already stands.
use Rattle.std.proofs.Common.{◌≡◌, ◌⊎◌, ℕ, zero, suc, ◌+◌, ◌*◌, Contains, List, [], ◌∷◌, ◌++◌, Option, Some, slice_get, slice_set, refl, ap, sym, subst, ◌∙◌, arith, inl, inr, Bool, true, false, if◌then◌else◌}
use Rattle.std.proofs.lemmas.List.Elements.{Contains-append_left, Contains-push, Contains-push_cases}
use Rattle.std.proofs.lemmas.Option.{none-some, same_Some}
use Rattle.order_counts.specs.Layers.{AddsIf, Advances, AllAdvance, IsAdded, IsJoined, LeadAlike, Spreads, StandsFor, joined, with_turn}
use Rattle.order_counts.specs.Orders.{comes_before}
use Rattle.order_counts.specs.Rows.{Counted, weighed}
use Rattle.order_counts.proofs.Before.{not_both, not_itself}
use Rattle.order_counts.proofs.Lists.{weighed-append}
use Rattle.order_counts.proofs.Spread.{first_in, in_cases, in_none, later_in}

-- ---- equal states are alike

module _ (Same : List ℕ → List ℕ → Type 0) where
  -- a member stands for itself
  stands_itself : (cs : List Counted) (e : Counted) → Contains cs e → Same e.order e.order
      → StandsFor Same cs e.order
  stands_itself cs e inside same = record {
    it = e;
    inside = inside;
    same = same;
    first = not_itself e.order;
  }

  -- ---- one that is met for the first time

  pub pushed : (old : List Counted) (c : Counted)
      → ((e : Counted) → Contains old e → Same e.order e.order) → Same c.order c.order
      → IsAdded Same old c (old ++ c ∷ [])
  pushed old c olds same = record {
    weights = λ f steady. let whole = weighed-append f old (c ∷ []) in omega (arith, whole);
    no_other = λ d inside. by d (Contains-push_cases old c d inside);
    kept = λ e inside. stands_itself (old ++ c ∷ []) e
        (Contains-append_left old (c ∷ []) e inside) (olds e inside);
    added = stands_itself (old ++ c ∷ []) c (Contains-push old c) same;
  }
    where
      by : (d : Counted) → Contains old d ⊎ (c ≡ d)
          → (d.order ≡ c.order) ⊎ ((e : Counted) × (Contains old e × (d.order ≡ e.order)))
      by d (inl earlier) = inr (d, (earlier, refl))
      by d (inr is) = inl (ap (λ (x : Counted). x.order) (sym is))

-- ---- one for which another already stands

-- the item at a place is in the list
at_in : (xs : List Counted) (k : ℕ) (x : Counted) → slice_get xs k ≡ Some x → Contains xs x
at_in [] k x h = absurd (none-some x h)
at_in (y ∷ ys) zero x h =
    subst (λ (z : Counted). Contains (y ∷ ys) z) (same_Some y x h) (first_in y ys)
at_in (y ∷ ys) (suc k) x h = later_in y ys x (at_in ys k x h)

-- the weight of a list in which one item is replaced
weighed-set : (f : List ℕ → ℕ) (xs : List Counted) (k : ℕ) (x m : Counted)
    → slice_get xs k ≡ Some x
    → weighed f (slice_set xs k m) + x.count * f x.order ≡ weighed f xs + m.count * f m.order
weighed-set f [] k x m h = absurd (none-some x h)
weighed-set f (y ∷ ys) zero x m h =
    let same : y.count * f y.order ≡ x.count * f x.order
    = ap (λ (z : Counted). z.count * f z.order) (same_Some y x h) in
    omega (arith, same)
weighed-set f (y ∷ ys) (suc k) x m h =
    let rest = weighed-set f ys k x m h in
    omega (arith, rest)

-- what is in a list in which one item is replaced
in_set : (xs : List Counted) (k : ℕ) (m d : Counted) → Contains (slice_set xs k m) d
    → (d ≡ m) ⊎ Contains xs d
in_set [] k m d h = absurd (in_none d h)
in_set (x ∷ xs) zero m d h = by (in_cases m xs d h)
  where
    by : (m ≡ d) ⊎ Contains xs d → (d ≡ m) ⊎ Contains (x ∷ xs) d
    by (inl e) = inl (sym e)
    by (inr later) = inr (later_in x xs d later)
in_set (x ∷ xs) (suc k) m d h =
    by (in_cases x (slice_set xs k m) d h) (in_set xs k m d)
  where
    next : (d ≡ m) ⊎ Contains xs d → (d ≡ m) ⊎ Contains (x ∷ xs) d
    next (inl e) = inl e
    next (inr later) = inr (later_in x xs d later)

    by : (x ≡ d) ⊎ Contains (slice_set xs k m) d
        → (Contains (slice_set xs k m) d → (d ≡ m) ⊎ Contains xs d)
        → (d ≡ m) ⊎ Contains (x ∷ xs) d
    by (inl e) rest = inr (subst (λ (y : Counted). Contains (x ∷ xs) y) e (first_in x xs))
    by (inr later) rest = next (rest later)

-- the replacing item is in it
has_set : (xs : List Counted) (k : ℕ) (x m : Counted) → slice_get xs k ≡ Some x
    → Contains (slice_set xs k m) m
has_set [] k x m h = absurd (none-some x h)
has_set (y ∷ ys) zero x m h = first_in m ys
has_set (y ∷ ys) (suc k) x m h = later_in y (slice_set ys k m) m (has_set ys k x m h)

-- any other item stays in it
stays_in : (xs : List Counted) (k : ℕ) (x m e : Counted) → slice_get xs k ≡ Some x
    → Contains xs e → (x ≡ e) ⊎ Contains (slice_set xs k m) e
stays_in [] k x m e h inside = absurd (none-some x h)
stays_in (y ∷ ys) zero x m e h inside = by (in_cases y ys e inside)
  where
    by : (y ≡ e) ⊎ Contains ys e → (x ≡ e) ⊎ Contains (m ∷ ys) e
    by (inl is) = inl (sym (same_Some y x h) ∙ is)
    by (inr later) = inr (later_in m ys e later)
stays_in (y ∷ ys) (suc k) x m e h inside =
    by (in_cases y ys e inside) (stays_in ys k x m e h)
  where
    next : (x ≡ e) ⊎ Contains (slice_set ys k m) e
        → (x ≡ e) ⊎ Contains (y ∷ slice_set ys k m) e
    next (inl is) = inl is
    next (inr later) = inr (later_in y (slice_set ys k m) e later)

    by : (y ≡ e) ⊎ Contains ys e
        → (Contains ys e → (x ≡ e) ⊎ Contains (slice_set ys k m) e)
        → (x ≡ e) ⊎ Contains (y ∷ slice_set ys k m) e
    by (inl is) rest = inr (subst (λ (z : Counted). Contains (y ∷ slice_set ys k m) z) is
        (first_in y (slice_set ys k m)))
    by (inr later) rest = next (rest later)

-- the first of two, with the counts of both, stands for both
pub joined_is : (x c : Counted) → IsJoined x c (joined x c)
joined_is x c = by (comes_before c.order x.order) refl
  where
    by : (b : Bool) → comes_before c.order x.order ≡ b → IsJoined x c (record {
      order = if b then c.order else x.order;
      count = x.count + c.count;
    })
    by true h = record {
      count = refl;
      is = inr refl;
      before_x = not_both c.order x.order h;
      before_c = not_itself c.order;
    }
    by false h = record {
      count = refl;
      is = inl refl;
      before_x = not_itself x.order;
      before_c = h;
    }

module _ (Same : List ℕ → List ℕ → Type 0) where
  pub met : (old : List Counted) (k : ℕ) (x c m : Counted) → slice_get old k ≡ Some x
      → ((e : Counted) → Contains old e → Same e.order e.order)
      → Same m.order x.order → Same m.order c.order → IsJoined x c m
      → IsAdded Same old c (slice_set old k m)
  met old k x c m at olds as_x as_c joined = record {
    weights = λ f steady.
        let set = weighed-set f old k x m at in
        let one = ap (λ n. x.count * n) (sym (steady m.order x.order as_x)) in
        let two = ap (λ n. c.count * n) (sym (steady m.order c.order as_c)) in
        let three = ap (λ n. n * f m.order) joined.count in
        omega (arith, set, one, two, three);
    no_other = λ d inside. other d (in_set old k m d inside);
    kept = λ e inside. keeps e inside (stays_in old k x m e at inside);
    added = record {
      it = m;
      inside = has_set old k x m at;
      same = as_c;
      first = joined.before_c;
    };
  }
    where
      named : (d : Counted) → d ≡ m → (m.order ≡ x.order) ⊎ (m.order ≡ c.order)
          → (d.order ≡ c.order) ⊎ ((e : Counted) × (Contains old e × (d.order ≡ e.order)))
      named d is (inl e) = inr (x, (at_in old k x at, ap (λ (y : Counted). y.order) is ∙ e))
      named d is (inr e) = inl (ap (λ (y : Counted). y.order) is ∙ e)

      other : (d : Counted) → (d ≡ m) ⊎ Contains old d
          → (d.order ≡ c.order) ⊎ ((e : Counted) × (Contains old e × (d.order ≡ e.order)))
      other d (inl is) = named d is joined.is
      other d (inr earlier) = inr (d, (earlier, refl))

      keeps : (e : Counted) → Contains old e → (x ≡ e) ⊎ Contains (slice_set old k m) e
          → StandsFor Same (slice_set old k m) e.order
      keeps e inside (inl is) =
          subst (λ (y : Counted). StandsFor Same (slice_set old k m) y.order) is (record {
            it = m;
            inside = has_set old k x m at;
            same = as_x;
            first = joined.before_x;
          })
      keeps e inside (inr still) = stands_itself Same (slice_set old k m) e still (olds e inside)

-- ---- one turn more, and one way more

module _ {M : Type 0} (go : M → ℕ → Option M) (start : M) (Alike : M → M → Type 0) where
  -- the turns of these tasks, and then that of one more
  pub spreads-more : (m : M) (c : Counted) (ns : List ℕ) (n : ℕ) (old mid new : List Counted)
      → Spreads go Alike start m c ns old mid
      → AddsIf (LeadAlike go Alike start) (go m n) mid (with_turn c n) new
      → Spreads go Alike start m c (ns ++ n ∷ []) old new
  spreads-more m c [] n old mid new h adds = (
    new,
    (
      subst (λ (cs : List Counted).
          AddsIf (LeadAlike go Alike start) (go m n) cs (with_turn c n) new) h adds,
      refl,
    ),
  )
  spreads-more m c (k ∷ ks) n old mid new h adds =
      (h.0, (h.1.0, spreads-more m c ks n h.0 mid new h.1.1 adds))

module _ {M O : Type 0} (go : M → ℕ → Option M) (start : M) (Alike : M → M → Type 0) where
  -- the ways of a layer, and then one more
  pub advance-more : (tasks : List ℕ) (outcome : M → O) (layer : List Counted) (c : Counted)
      (next rows mid more next' rows' : List Counted)
      → AllAdvance go tasks start outcome Alike layer next rows mid more
      → Advances go tasks start outcome Alike c mid more next' rows'
      → AllAdvance go tasks start outcome Alike (layer ++ c ∷ []) next rows next' rows'
  advance-more tasks outcome [] c next rows mid more next' rows' h a = (
    next',
    (
      rows',
      (
        subst (λ (cs : List Counted).
            Advances go tasks start outcome Alike c next cs next' rows') h.1
            (subst (λ (cs : List Counted).
            Advances go tasks start outcome Alike c cs more next' rows')
            h.0 a),
        (refl, refl),
      ),
    ),
  )
  advance-more tasks outcome (d ∷ ds) c next rows mid more next' rows' h a = (
    h.0,
    (
      h.1.0,
      (
        h.1.1.0,
        advance-more tasks outcome ds c h.0 h.1.0 mid more next' rows'
            h.1.1.1 a,
      ),
    ),
  )
