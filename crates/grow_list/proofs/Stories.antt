-- The story grows, and views still fit it.
use Rattle.std.proofs.Common.{◌≡◌, ◌≢◌, ℕ, ◌<◌, ◌≤◌, List, [], ◌∷◌, ◌++◌, set, None, Some, sym, ◌∙◌, subst, ⊎_elim, arith, length-set}
use Rattle.std.specs.Prelude.{slice_index}
use mathlib.Core.List.{IsPrefix}
use mathlib.Core.Option.{some}
use lib.ListN.{get_elem?}
use Rattle.std.proofs.lemmas.List.{set-get_or}
use Rattle.std.proofs.lemmas.Option.{none-some}
use Rattle.atomic_table.specs.Table.{State, keeps, stepped}
use Rattle.atomic_table.proofs.Lists.{at_set}
use Rattle.grow_list.specs.declared.views.Listed.{Listed}
use Rattle.grow_list.specs.declared.views.Held.{Held}
use Rattle.grow_list.specs.declared.views.SeatView.{SeatView}
use Rattle.grow_list.specs.declared.views.SeatView.TheVariants.{Spent, OfList, OfPass, ListBeside, PassBeside}
use Rattle.grow_list.specs.Entries.{entries_of}
use Rattle.grow_list.specs.Views.{entries_in}
use Rattle.grow_list.specs.Rule.{Story, WasList, IsList, WasPass, Fits, Counts, HasStory}
use Rattle.grow_list.proofs.Prefixes.{prefix_trans}

-- the second story continues the first
pub record Grows {E : Type 0} (t u : Story E) : Type 0 where
  pub list : IsPrefix t.list u.list
  pub numbers : IsPrefix t.numbers u.numbers
  pub callers : u.callers ≡ t.callers
  pub next : t.next ≤ u.next
  pub owner : (n : ℕ) → n < t.next → u.owner n ≡ t.owner n
  pub mine : (n : ℕ) → IsPrefix (t.mine n) (u.mine n)

-- the list's own view doesn't change
pub record SameList {E : Type 0} (t u : Story E) : Type 0 where
  pub list : u.list ≡ t.list
  pub numbers : u.numbers ≡ t.numbers
  pub pending : u.pending ≡ t.pending

module _ {E : Type 0} where
  pub was_list : (t u : Story E) (l : Listed E) → Grows t u → WasList t l → WasList u l
  was_list t u l g w = record {
    list = prefix_trans l.list t.list u.list w.list g.list;
    numbers = prefix_trans l.numbers t.numbers u.numbers w.numbers g.numbers;
    even = w.even;
    callers = w.callers ∙ sym g.callers;
    taken = λ none n. prefix_trans (entries_in n l) (t.mine n) (u.mine n) (w.taken none n)
        (g.mine n);
  }

  pub is_list : (t u : Story E) (l : Listed E) → SameList t u → IsList t l → IsList u l
  is_list t u l same is = record {
    list = is.list ∙ sym same.list;
    numbers = is.numbers
        ∙ sym same.numbers;
    pending = is.pending ∙ sym same.pending;
  }

  pub was_pass : (t u : Story E) (p : Held E) → Grows t u → WasPass t p → WasPass u p
  was_pass t u p g w = record {
    owner = g.owner p.number w.drawn ∙ w.owner;
    drawn = (let d = w.drawn in let n = g.next in omega arith);
    callers = w.callers ∙ sym g.callers;
    seen = prefix_trans p.seen t.list u.list w.seen g.list;
    mine = prefix_trans p.mine (t.mine p.number) (u.mine p.number) w.mine (g.mine p.number);
  }

  -- a view still fits a longer story, if its seat's own part of the story doesn't change
  pub fits_on : (t u : Story E) (seat : ℕ) (v : SeatView E) → Grows t u → (seat ≡ 0 → SameList t u)
      → ((n : ℕ) → n < t.next → t.owner n ≡ seat → u.mine n ≡ t.mine n) → Fits t seat v
      → Fits u seat v
  fits_on t u seat Spent g list pass f = tt
  fits_on t u seat (OfList l) g list pass f =
      (was_list t u l g f.0, λ e. is_list t u l (list e) (f.1 e))
  fits_on t u seat (OfPass p) g list pass f =
      (was_pass t u p g f.0, λ e. pass p.number f.0.drawn (f.0.owner ∙ sym e) ∙ f.1 e)
  fits_on t u seat (ListBeside l p) g list pass f =
      (was_list t u l g f.0, (λ e. is_list t u l (list e) (f.1 e)), was_pass t u p g f.2)
  fits_on t u seat (PassBeside p l) g list pass f = (
    was_pass t u p g f.0,
    (λ e. pass p.number f.0.drawn (f.0.owner ∙ sym e) ∙ f.1 e),
    was_list t u l g f.2,
  )

  -- after the view of one seat changes, the views of the others still fit
  pub each_set : (t u : Story E) (views : List (SeatView E)) (seat : ℕ) (w : SeatView E)
      → ((j : ℕ) (v : SeatView E) → j ≢ seat → Fits t j v → Fits u j v) → Fits u seat w
      → ((j : ℕ) (v : SeatView E) → get_elem? views j ≡ some v → Fits t j v)
      → (j : ℕ) (v : SeatView E) → get_elem? (set views seat w) j ≡ some v → Fits u j v
  each_set t u views seat w on mine each j v e =
      ⊎_elim
      (λ (x : (j ≡ seat) × (w ≡ v)). subst (λ (y : ℕ × SeatView E). Fits u y.0 y.1)
      (λ i. (sym x.0 i, x.1 i)) mine)
      (λ (x : (j ≢ seat) × (get_elem? views j ≡ some v)). on j v x.0 (each j v x.1))
      (at_set views seat j w v e)

  -- a load changes the view of one seat, and not the story
  pub stays : (k : ℕ) (s : State (Unit {0}) (SeatView E)) (h : HasStory k s) (i seat : ℕ)
      (c : List (ℕ × Unit {0})) (w : SeatView E) → Fits h.story seat w
      → HasStory k (stepped s i (slice_index s.words i) seat c w keeps)
  stays k s h i seat c w fits = record {
    story = h.story;
    callers_are = h.callers_are;
    words = set-get_or s.words i 0 ∙ h.words;
    room = h.room;
    even = h.even;
    below = h.below;
    marked = h.marked;
    owned = λ n d. let o = h.owned n d in let e = length-set s.views seat w in omega arith;
    undrawn = h.undrawn;
    counted = h.counted;
    each = each_set h.story h.story s.views seat w (λ j v other f. f) fits h.each;
  }

  -- the list's own view has the whole story of the list
  pub own_entries : (t : Story E) (l : Listed E) → IsList t l → (n : ℕ) → entries_in n l
      ≡ entries_of n t.numbers t.list
  own_entries t l is n = λ i. entries_of n (is.numbers i) (is.list i)

  pub settled : (t : Story E) (n : ℕ) → t.pending ≡ None
      → Counts t.pending n (entries_of n t.numbers t.list) (t.mine n)
      → entries_of n t.numbers t.list
      ≡ t.mine n
  settled t n none counts =
      ⊎_elim (λ e. e)
      (λ (x : (t.pending ≡ Some n)
      × ((x : ℕ × E) × (entries_of n t.numbers t.list ≡ t.mine n ++ x ∷ []))). absurd
      (none-some n (sym none ∙ x.0))) counts
