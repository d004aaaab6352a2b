-- A split and a join keep the rule.
use Rattle.std.proofs.Common.{◌≡◌, ◌≢◌, ◌⊎◌, ℕ, zero, suc, ◌<◌, List, [], ◌∷◌, ◌++◌, length, set, refl, sym, ap, ◌∙◌, subst, inl, inr, ⊎_elim, arith, length-append, length-set}
use mathlib.Core.Option.{some, some-ne-none, some-injective}
use lib.ListN.{get_elem?}
use Rattle.atomic_table.specs.Table.{Splits, Joins}
use Rattle.atomic_table.proofs.Lists.{at_set, set_again}
use Rattle.grow_list.specs.declared.views.Listed.{Listed}
use Rattle.grow_list.specs.declared.views.Held.{Held}
use Rattle.grow_list.specs.declared.views.SeatView.{SeatView}
use Rattle.grow_list.specs.declared.views.SeatView.TheVariants.{Spent, OfList, OfPass, ListBeside, PassBeside}
use Rattle.grow_list.specs.Rule.{Story, Fits, HasStory}
use Rattle.grow_list.proofs.Stories.{each_set}

module _ {A : Type 0} where
  pub at_length : (l : List A) (i : ℕ) (a : A) → get_elem? l i ≡ some a → i < length l
  at_length [] i a e = absurd (some-ne-none a (sym e))
  at_length (x ∷ xs) zero a e = omega arith
  at_length (x ∷ xs) (suc i) a e = let r = at_length xs i a e in omega arith

  at_end : (l : List A) (a b : A) (j : ℕ) → get_elem? (l ++ a ∷ []) j ≡ some b
      → (get_elem? l j ≡ some b) ⊎ ((j ≡ length l) × (a ≡ b))
  at_end [] a b zero e = inr (refl, some-injective a b e)
  at_end [] a b (suc j) e = absurd (some-ne-none b (sym e))
  at_end (x ∷ xs) a b zero e = inl e
  at_end (x ∷ xs) a b (suc j) e = ⊎_elim (λ t. inl t) (λ t. inr (ap suc t.0, t.1))
      (at_end xs a b j e)

module _ {E : Type 0} where
  -- A split: a copy's seat is new, so it is neither the list's own seat nor one that drew a number.
  copy_fits : (t : Story E) (seat : ℕ) (views : List (SeatView E)) (v : SeatView E)
      → seat < length views
      → ((n : ℕ) → n < t.next → t.owner n < length views) → Fits t seat v → Fits t (length views) v
  copy_fits t seat views Spent there owned f = tt
  copy_fits t seat views (OfList l) there owned f = (f.0, λ e. absurd (omega arith))
  copy_fits t seat views (OfPass p) there owned f =
      (f.0, λ e. absurd (let o = owned p.number f.0.drawn in let is = f.0.owner in omega arith))
  copy_fits t seat views (ListBeside l p) there owned f = (f.0, (λ e. absurd (omega arith)), f.2)
  copy_fits t seat views (PassBeside p l) there owned f = (
    f.0,
    (λ e. absurd (let o = owned p.number f.0.drawn in let is = f.0.owner in omega arith)),
    f.2,
  )

  pub copies : (k seat : ℕ) (v : SeatView E) → Splits {S = Unit {0}} (HasStory k) seat v v v
  copies k seat v s h at =
      let same : set s.views seat v ≡ s.views = set_again s.views seat v at in
      let there = at_length s.views seat v at in record {
        story = h.story;
        callers_are = h.callers_are;
        words = h.words;
        room = h.room;
        even = h.even;
        below = h.below;
        marked = h.marked;
        owned = λ n d. let o = h.owned n d in let e = length-set s.views seat v
            in omega (
              arith,
              length-append (set s.views seat v) (v ∷ []),
            );
        undrawn = h.undrawn;
        counted = h.counted;
        each = λ j u e. ⊎_elim
            (λ (was : get_elem? (set s.views seat v) j ≡ some u). h.each j u
            (subst (λ (l : List (SeatView E)). get_elem? l j ≡ some u) same was))
            (λ (new : (j ≡ length (set s.views seat v)) × (v ≡ u)). subst
            (λ (y : ℕ × SeatView E). Fits h.story y.0 y.1)
            (λ i. ((ap length (sym same) ∙ sym new.0) i, new.1 i))
            (copy_fits h.story seat s.views v there h.owned (h.each seat v at)))
            (at_end (set s.views seat v) v u j e);
      }

  joins : (k seat : ℕ) (v : SeatView E) (other : ℕ) (w both : SeatView E)
      → ((t : Story E) → Fits t seat v → Fits t other w → Fits t seat both)
      → Joins {S = Unit {0}} (HasStory k) seat v other w both Spent
  joins k seat v other w both meet s h at apart there = record {
    story = h.story;
    callers_are = h.callers_are;
    words = h.words;
    room = h.room;
    even = h.even;
    below = h.below;
    marked = h.marked;
    owned = λ n d. let o = h.owned n d in let e = length-set s.views seat both in let f =
        length-set (set s.views seat both) other Spent in omega arith;
    undrawn = h.undrawn;
    counted = h.counted;
    each = each_set h.story h.story (set s.views seat both) other Spent (λ j u ne f. f) tt
        (each_set h.story h.story s.views seat both (λ j u ne f. f)
        (meet h.story (h.each seat v at) theirs) h.each);
  }
    where
      theirs : Fits h.story other w
      theirs = ⊎_elim
          (λ (x : (other ≡ seat) × (both ≡ w)). absurd (apart x.0))
          (λ (x : (other ≢ seat) × (get_elem? s.views other ≡ some w)). h.each other w x.1)
          (at_set s.views seat other both w there)

  pub comes : (k seat : ℕ) (l : Listed E) (other : ℕ) (p : Held E)
      → Joins {S = Unit {0}} (HasStory k) seat (OfList l) other (OfPass p) (ListBeside l p) Spent
  comes k seat l other p = joins k seat (OfList l) other (OfPass p) (ListBeside l p)
      (λ t f g. (f.0, f.1, g.0))

  pub visits : (k seat : ℕ) (p : Held E) (other : ℕ) (l : Listed E)
      → Joins {S = Unit {0}} (HasStory k) seat (OfPass p) other (OfList l) (PassBeside p l) Spent
  visits k seat p other l = joins k seat (OfPass p) other (OfList l) (PassBeside p l)
      (λ t f g. (f.0, f.1, g.0))
