-- The search for a name, and the result at the index where it ends.
use Rattle.std.proofs.Common.{◌≡◌, ◌∙◌, ap, subst, ℕ, zero, suc, ◌<◌, List, [], ◌∷◌, length, get_or, set, refl, arith}
use Rattle.std.specs.Prelude.{Some, None, insert, remove}
use Rattle.std.specs.Cmp.Lexicographic.{texts_ties, nat_list_cmp_total}
use Rattle.std.specs.Ordering.{is_eq}
use Rattle.std.specs.Str.{bytes_eq}
use Rattle.std.specs.declared.cmp.Ordering.{Ordering}
use Rattle.std.specs.declared.cmp.Ordering.TheVariants.{Less, Equal, Greater}
use Rattle.xattr_store.specs.Attrs.{byte_order, IsAttrs, IsBefore, Pair, put, value, without}
use Rattle.xattr_store.specs.Places.{IsFoundAt, IsGapAt, IsPast}

-- ---- the steps of a search: a is the pair at index i

at_head : (name : List ℕ) (b a : Pair) (r : Ordering) → a ≡ b → byte_order name a.0 ≡ r
    → byte_order name b.0 ≡ r
at_head name b a r is h = let P : Pair → Type 0 = λ p. byte_order name p.0 ≡ r in subst P is h

pub past_more : (name : List ℕ) (attrs : List Pair) (i : ℕ) (a : Pair) → i < length attrs → a
    ≡ get_or attrs i a →
    byte_order name a.0 ≡ Greater → IsPast name attrs i → IsPast name attrs (suc i)
past_more name [] i a here is after past = absurd (omega arith)
past_more name (b ∷ rest) zero a here is after past = (at_head name b a Greater is after, tt)
past_more name (b ∷ rest) (suc i) a here is after past =
    (past.0, past_more name rest i a (omega arith) is after past.1)

pub found_past : (name : List ℕ) (attrs : List Pair) (i : ℕ) (a : Pair) → i < length attrs → a
    ≡ get_or attrs i a →
    byte_order name a.0 ≡ Equal → IsPast name attrs i → IsFoundAt name attrs i
found_past name [] i a here is same past = absurd (omega arith)
found_past name (b ∷ rest) zero a here is same past = at_head name b a Equal is same
found_past name (b ∷ rest) (suc i) a here is same past =
    (past.0, found_past name rest i a (omega arith) is same past.1)

pub gap_past : (name : List ℕ) (attrs : List Pair) (i : ℕ) (a : Pair) → i < length attrs → a
    ≡ get_or attrs i a →
    byte_order name a.0 ≡ Less → IsPast name attrs i → IsGapAt name attrs i
gap_past name [] i a here is before past = absurd (omega arith)
gap_past name (b ∷ rest) zero a here is before past = at_head name b a Less is before
gap_past name (b ∷ rest) (suc i) a here is before past =
    (past.0, gap_past name rest i a (omega arith) is before past.1)

pub gap_end : (name : List ℕ) (attrs : List Pair) → IsPast name attrs (length attrs)
    → IsGapAt name attrs (length attrs)
gap_end name [] past = tt
gap_end name (b ∷ rest) past = (past.0, gap_end name rest past.1)

-- ---- the end of a search

pub found_below : (name : List ℕ) (attrs : List Pair) (k : ℕ) → IsFoundAt name attrs k
    → k < length attrs
found_below name [] k found = absurd found
found_below name (a ∷ rest) zero found = omega arith
found_below name (a ∷ rest) (suc k) found = let h = found_below name rest k found.1 in omega arith

pub gap_within : (name : List ℕ) (attrs : List Pair) (k : ℕ) → IsGapAt name attrs k
    → k < suc (length attrs)
gap_within name [] zero gap = omega arith
gap_within name [] (suc k) gap = absurd gap
gap_within name (a ∷ rest) zero gap = omega arith
gap_within name (a ∷ rest) (suc k) gap = let h = gap_within name rest k gap.1 in omega arith

-- names compare as Equal exactly if their bytes are equal
pub eq_as_ordered : (name other : List ℕ) (r : Ordering) → byte_order name other ≡ r
    → bytes_eq name other ≡ is_eq r
eq_as_ordered name other r h = texts_ties name other ∙ ap is_eq h

pub value_found : (name : List ℕ) (attrs : List Pair) (k : ℕ) (d : Pair) → IsFoundAt name attrs k →
    value name attrs ≡ Some (get_or attrs k d).1
value_found name [] k d found = absurd found
value_found name (a ∷ rest) zero d found = rw (eq_as_ordered name a.0 Equal found) refl
value_found name (a ∷ rest) (suc k) d found =
    rw (eq_as_ordered name a.0 Greater found.0) (value_found name rest k d found.1)

-- a name that comes before the first one is absent
pub value_before : (name : List ℕ) (attrs : List Pair) → IsBefore name attrs → value name attrs
    ≡ None
value_before name [] before = refl
value_before name (a ∷ rest) before =
    rw (eq_as_ordered name a.0 Less before.0) (value_before name rest before.1)

pub before_trans : (low name : List ℕ) (attrs : List Pair) → byte_order low name ≡ Less
    → IsBefore name attrs → IsBefore low attrs
before_trans low name [] first before = tt
before_trans low name (a ∷ rest) first before = (
  nat_list_cmp_total.trans low name a.0 first before.0,
  before_trans low name rest first before.1,
)

pub value_gap : (name : List ℕ) (attrs : List Pair) (k : ℕ) → IsAttrs attrs → IsGapAt name attrs k
    → value name attrs ≡ None
value_gap name [] k ok gap = refl
value_gap name (a ∷ rest) zero ok gap =
    rw (eq_as_ordered name a.0 Less gap)
    (value_before name rest (before_trans name a.0 rest gap ok.0))
value_gap name (a ∷ rest) (suc k) ok gap =
    rw (eq_as_ordered name a.0 Greater gap.0) (value_gap name rest k ok.2 gap.1)

pub put_found : (name bytes : List ℕ) (attrs : List Pair) (k : ℕ) (d : Pair)
    → IsFoundAt name attrs k →
    set attrs k ((get_or attrs k d).0, bytes) ≡ put name bytes attrs
put_found name bytes [] k d found = absurd found
put_found name bytes (a ∷ rest) zero d found = rw found refl
put_found name bytes (a ∷ rest) (suc k) d found =
    rw found.0 (ap (λ (l : List Pair). a ∷ l) (put_found name bytes rest k d found.1))

pub put_gap : (name bytes : List ℕ) (attrs : List Pair) (k : ℕ) → IsGapAt name attrs k →
    insert attrs k (name, bytes) ≡ put name bytes attrs
put_gap name bytes [] zero gap = refl
put_gap name bytes [] (suc k) gap = absurd gap
put_gap name bytes (a ∷ rest) zero gap = rw gap refl
put_gap name bytes (a ∷ rest) (suc k) gap =
    rw gap.0 (ap (λ (l : List Pair). a ∷ l) (put_gap name bytes rest k gap.1))

pub without_found : (name : List ℕ) (attrs : List Pair) (k : ℕ) → IsFoundAt name attrs k →
    remove attrs k ≡ without name attrs
without_found name [] k found = absurd found
without_found name (a ∷ rest) zero found = rw (eq_as_ordered name a.0 Equal found) refl
without_found name (a ∷ rest) (suc k) found =
    rw (eq_as_ordered name a.0 Greater found.0)
    (ap (λ (l : List Pair). a ∷ l) (without_found name rest k found.1))
