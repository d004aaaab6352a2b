-- The store of an entry and the draw of a number keep the rule, and the rule holds at the start.
use Rattle.std.proofs.Common.{◌≡◌, ◌≢◌, ℕ, zero, suc, ◌+◌, ◌<◌, List, [], ◌∷◌, ◌++◌, length, set, None, Some, Bool, cond, eqb, refl, sym, ap, ◌∙◌, subst, inl, inr, ⊎_elim, arith, length-append, length-set, eq-eqb, ne_eqb}
use Rattle.std.specs.Prelude.{slice_index}
use mathlib.Core.Option.{some, some-ne-none, some-injective}
use lib.ListN.{get_elem?}
use prog.Atomic.{either}
use Rattle.std.proofs.lemmas.Bool.{cases_eq}
use Rattle.std.proofs.lemmas.Option.{none-some, same_Some}
use Rattle.std.proofs.lemmas.List.Elements.{All-push, All-weaker, All-nil}
use Rattle.atomic_table.specs.Table.{State, Act, keeps, stepped, Valid, carried_after, opening, Me, Allows}
use Rattle.atomic_table.proofs.Lists.{exchanged}
use Rattle.grow_list.specs.declared.views.Listed.{Listed}
use Rattle.grow_list.specs.declared.views.Held.{Held}
use Rattle.grow_list.specs.declared.views.SeatView.{SeatView}
use Rattle.grow_list.specs.declared.views.SeatView.TheVariants.{OfList, OfPass, ListBeside}
use Rattle.grow_list.specs.Entries.{entries_of}
use Rattle.grow_list.specs.Views.{newborn, newcomer, longer}
use Rattle.grow_list.specs.Rule.{Story, Fits, Counts, HasStory}
use Rattle.grow_list.proofs.Prefixes.{prefix_none, prefix_refl, prefix_append, prefix_same}
use Rattle.grow_list.proofs.Counting.{entries-same, entries-other}
use Rattle.grow_list.proofs.Stories.{Grows, fits_on, each_set, stays, settled}
use Rattle.grow_list.proofs.Copies.{at_length}

-- the store by which an entry joins the list
module _ {E : Type 0} where
  with_entry : Story E → ℕ → E → Story E
  with_entry t n e = record {
    list = t.list ++ e ∷ [];
    numbers = t.numbers ++ n ∷ [];
    pending =
        Some n;
    callers = t.callers;
    next = t.next;
    owner = t.owner;
    mine = t.mine;
  }

  counts_more : (t : Story E) (m : ℕ) (e : E) → length t.numbers ≡ length t.list → t.pending ≡ None
      → (n : ℕ) → Counts t.pending n (entries_of n t.numbers t.list) (t.mine n)
      → Counts (Some m) n (entries_of n (t.numbers ++ m ∷ []) (t.list ++ e ∷ [])) (t.mine n)
  counts_more t m e even none n counts =
      ⊎_elim
      (λ (same : n ≡ m). inr (
        ap Some (sym same),
        (
          (length t.list, e),
          ap (λ (j : ℕ). entries_of n (t.numbers ++ j ∷ []) (t.list ++ e ∷ []))
              (sym same) ∙ entries-same n t.numbers t.list e even
              ∙ ap (λ (xs : List (ℕ × E)). xs ++ (length t.list, e) ∷ []) whole,
        ),
      ))
      (λ (other : n ≢ m). inl (entries-other n m t.numbers t.list e other even ∙ whole))
      (cases_eq n m)
    where
      whole : entries_of n t.numbers t.list ≡ t.mine n
      whole = settled t n none counts

  adds_kept : (k : ℕ) (s : State (Unit {0}) (SeatView E)) (h : HasStory k s) (l : Listed E)
      (p : Held E)
      (e : E) (c : List (ℕ × Unit {0})) (new : ℕ) → l.pending ≡ None → new ≡ length l.list + 1
      → get_elem? s.views 0 ≡ some (ListBeside l p)
      → HasStory k (stepped s 0 new 0 c (OfList (longer l p.number (e ∷ []))) keeps)
  unfolding with_entry
  adds_kept k s h l p e c new none due at =
      let t = h.story in
      let f = h.each 0 (ListBeside l p) at in
      let is = f.1 refl in
      let u = with_entry t p.number e in
      let on : Grows t u =
      record {
        list = prefix_append t.list (e ∷ []);
        numbers =
            prefix_append t.numbers (p.number ∷ []);
        callers = refl;
        next = omega arith;
        owner =
            λ n d. refl;
        mine = λ n. prefix_refl (t.mine n);
      } in
      let long : new ≡ length (t.list ++ e ∷ []) =
      omega (arith, length-append t.list (e ∷ []), ap length is.list) in
      let lists : l.list ++ e ∷ [] ≡ t.list ++ e ∷ [] = ap (λ (xs : List E). xs ++ e ∷ []) is.list
      in
      let nums : l.numbers ++ p.number ∷ [] ≡ t.numbers ++ p.number ∷ [] =
      ap (λ (xs : List ℕ). xs ++ p.number ∷ []) is.numbers in
      let even : length l.numbers ≡ length l.list = f.0.even in
      record {
        story = u;
        callers_are = h.callers_are;
        words = ap (λ (ws : List ℕ). set ws 0 new) h.words ∙ ap (λ (n : ℕ). n ∷ t.next ∷ []) long;
        room = h.room;
        even = (let even' =
            h.even in omega (
              arith,
              length-append t.numbers (p.number ∷ []),
              length-append t.list (e ∷ []),
            ));
        below = All-push (λ m. m < t.next) t.numbers p.number h.below f.2.drawn;
        marked = λ n mark.
            (t.numbers, ap (λ (m : ℕ). t.numbers ++ m ∷ []) (same_Some p.number n mark));
        owned = λ n d. let o = h.owned n d in let same =
            length-set s.views 0
            (OfList (longer l p.number (e ∷ [])))
            in omega arith;
        undrawn = h.undrawn;
        counted = λ n. counts_more t p.number e h.even (sym is.pending ∙ none) n (h.counted n);
        each = each_set t u s.views 0 (OfList (longer l p.number (e ∷ [])))
            (λ j v ne g. fits_on t u j v on (λ z. absurd (ne z)) (λ n d z. refl) g) (
              record {
                list = prefix_same (l.list ++ e ∷ []) (t.list ++ e ∷ []) lists;
                numbers = prefix_same (l.numbers ++ p.number ∷ []) (t.numbers ++ p.number ∷ [])
                    nums;
                even = omega (
                  arith,
                  length-append l.numbers (p.number ∷ []),
                  length-append l.list (e ∷ []),
                );
                callers = f.0.callers;
                taken = λ clear. absurd (none-some p.number (sym clear));
              },
              (λ z. record { list = lists; numbers = nums; pending = refl }),
            )
            h.each;
      }

  pub adds : (k slots : ℕ) (l : Listed E) (p : Held E) (e : E) (c : List (ℕ × Unit {0})) (new : ℕ)
      → l.pending ≡ None → new ≡ length l.list + 1
      → Allows (HasStory k) slots 0 (ListBeside l p, c) 0 (λ _. new)
      (λ _ w. w ≡ (OfList (longer l p.number (e ∷ [])), c))
  adds k slots l p e c new none due s h homes at small = (
    OfList (longer l p.number (e ∷ [])),
    keeps,
    tt,
    adds_kept k s h l p e c new none due at,
    refl,
  )

-- the draw of a number by a new seat
module _ {E : Type 0} where
  with_owner : Story E → ℕ → Story E
  with_owner t seat = record {
    list = t.list;
    numbers = t.numbers;
    pending = t.pending;
    callers =
        t.callers;
    next = suc t.next;
    owner = λ m. cond (eqb m t.next) seat (t.owner m);
    mine = t.mine;
  }

  draws_kept : (k : ℕ) (s : State (Unit {0}) (SeatView E)) (h : HasStory k s) (seat : ℕ)
      (l : Listed E) (c : List (ℕ × Unit {0})) (due new : ℕ) → new ≡ due + 1 → due < l.callers
      → slice_index s.words 1 ≡ due → get_elem? s.views seat ≡ some (OfList l)
      → HasStory k (stepped s 1 new seat c (OfPass (newcomer seat due l.callers)) keeps)
  unfolding with_owner
  draws_kept k s h seat l c due new next within found at =
      let t = h.story in
      let f = h.each seat (OfList l) at in
      let u = with_owner t seat in
      let is : t.next ≡ due = ap (λ (ws : List ℕ). slice_index ws 1) (sym h.words) ∙ found in
      let here : (m : ℕ) → m ≡ t.next → u.owner m ≡ seat =
      λ m same. ap (λ (b : Bool). cond b seat (t.owner m)) (eq-eqb m t.next same) in
      let before : (m : ℕ) → m < t.next → u.owner m ≡ t.owner m =
      λ m d. ap (λ (b : Bool). cond b seat (t.owner m))
      (ne_eqb m t.next (λ same. absurd (omega arith))) in
      let on : Grows t u =
      record {
        list = prefix_refl t.list;
        numbers = prefix_refl t.numbers;
        callers = refl;
        next = omega arith;
        owner = before;
        mine = λ n. prefix_refl (t.mine n);
      } in
      let callers : l.callers ≡ t.callers = f.0.callers in
      let same_length = length-set s.views seat (OfPass (newcomer seat due l.callers)) in
      let there = at_length s.views seat (OfList l) at in
      record {
        story = u;
        callers_are = h.callers_are;
        words = ap (λ (ws : List ℕ). set ws 1 new) h.words
            ∙ (let e : new ≡ suc t.next = omega arith in ap (λ (n : ℕ). length t.list ∷ n ∷ []) e);
        room = omega arith;
        even = h.even;
        below = All-weaker (λ m. m < t.next) (λ m. m < suc t.next) (λ m d. omega arith) t.numbers
            h.below;
        marked = h.marked;
        owned = λ n d. ⊎_elim
            (λ (same : n ≡ t.next). let e = here n same in omega arith)
            (λ (other : n ≢ t.next). let d' : n < t.next = omega arith in let e =
            before n d' in
            let o = h.owned n d'
            in omega arith)
            (cases_eq n t.next);
        undrawn = λ n d. h.undrawn n (omega arith);
        counted = h.counted;
        each = each_set t u s.views seat (OfPass (newcomer seat due l.callers))
            (λ j v ne g. fits_on t u j v on
            (λ z. record { list = refl; numbers = refl; pending = refl }) (λ n d z. refl) g) (
              record {
                owner = here due (sym is);
                drawn = omega arith;
                callers = callers;
                seen = prefix_none t.list;
                mine = prefix_none (t.mine due);
              },
              (λ z. h.undrawn due (omega arith)),
            )
            h.each;
      }

  pub draws : (k slots seat : ℕ) (l : Listed E) (c : List (ℕ × Unit {0})) (due new : ℕ) → new
      ≡ due + 1 → due < l.callers
      → Allows (HasStory k) slots seat (OfList l, c) 1 (λ n. either (eqb n due) new n)
      (λ n w. n ≡ due → w ≡ (OfPass (newcomer seat due l.callers), c))
  draws k slots seat l c due new next within s h homes at small =
      exchanged (slice_index s.words 1) due new (λ (x : ℕ). (w : SeatView E) × (a : Act (Unit {0}))
      × Valid s.homes c a × HasStory k (stepped s 1 x seat c w a)
      × (slice_index s.words 1 ≡ due → ◌≡◌ {A = Me (Unit {0}) (SeatView E)} (w, carried_after c a)
      (OfPass (newcomer seat due l.callers), c)))
      (λ hit. (
        OfPass (newcomer seat due l.callers),
        keeps,
        tt,
        draws_kept k s h seat l c due new next within hit at,
        λ _. refl,
      ))
      (λ miss. (
        OfList l,
        keeps,
        tt,
        stays k s h 1 seat c (OfList l) (h.each seat (OfList l) at),
        λ hit. absurd (miss hit),
      ))

  -- the rule holds at the start
  pub begins : (callers : ℕ)
      → HasStory {E = E} callers (opening {S = Unit {0}} (0 ∷ 0 ∷ []) [] (newborn callers))
  begins callers = record {
    story = t;
    callers_are = refl;
    words = refl;
    room = omega arith;
    even = refl;
    below = All-nil (λ m. m < 0);
    marked = λ n e. absurd (none-some n e);
    owned = λ n d. absurd (omega arith);
    undrawn = λ n d. refl;
    counted = λ n. inl refl;
    each = one;
  }
    where
      t : Story E
      t = record {
        list = [];
        numbers = [];
        pending = None;
        callers = callers;
        next = 0;
        owner =
            λ n. 0;
        mine = λ n. [];
      }

      one : (seat : ℕ) (v : SeatView E) → get_elem? (newborn callers ∷ []) seat ≡ some v
          → Fits t seat v
      one zero v e = subst (Fits t 0) (some-injective (newborn callers) v e) (
        record {
          list = prefix_refl [];
          numbers = prefix_refl [];
          even = refl;
          callers = refl;
          taken = λ none n. prefix_refl [];
        },
        (λ z. record { list = refl; numbers = refl; pending = refl }),
      )
      one (suc seat) v e = absurd (some-ne-none v (sym e))
