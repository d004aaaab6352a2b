-- The loads by which two views that met become one keep the rule, and the closing load keeps it.
use Rattle.std.proofs.Common.{◌≡◌, ◌≢◌, ℕ, ◌<◌, ◌≤◌, List, [], ◌∷◌, ◌++◌, length, Option, None, Some, Bool, true, false, cond, ◌&&◌, eqb, leb, refl, sym, ap, ◌∙◌, subst, inl, ⊎_elim, arith, length-append, length-set, eq-eqb, ne_eqb}
use Rattle.std.specs.Prelude.{slice_index}
use mathlib.Core.List.{IsPrefix}
use mathlib.Core.Option.{some}
use lib.ListN.{get_elem?}
use Rattle.std.proofs.lemmas.List.{set-get_or}
use Rattle.std.proofs.lemmas.Bool.{and_parts, cond_below, cond_above, eqb-true, leb-true, cases_eq, cases_lt}
use Rattle.std.proofs.lemmas.Option.{none-some, same_Some}
use Rattle.std.proofs.lemmas.List.Elements.{All-weaker, All-same}
use Rattle.atomic_table.specs.Table.{State, keeps, stepped, Allows}
use Rattle.grow_list.specs.declared.views.Listed.{Listed}
use Rattle.grow_list.specs.declared.views.Held.{Held}
use Rattle.grow_list.specs.declared.views.SeatView.{SeatView}
use Rattle.grow_list.specs.declared.views.SeatView.TheVariants.{OfList, OfPass, ListBeside, PassBeside}
use Rattle.grow_list.specs.Entries.{entries_of}
use Rattle.grow_list.specs.Views.{longest, marks, entries_in, heard, learned}
use Rattle.grow_list.specs.Rule.{Story, WasList, IsList, WasPass, Counts, HasStory}
use Rattle.grow_list.specs.Steps.{Agrees, Owns, IsComplete}
use Rattle.grow_list.proofs.Prefixes.{prefix_refl, prefix_same, prefix_length, prefix_whole, prefix_longest}
use Rattle.grow_list.proofs.Counting.{entries-prefix}
use Rattle.grow_list.proofs.Stories.{Grows, fits_on, each_set, stays, own_entries, settled}

marks_is : (n : ℕ) (mark : Option ℕ) → marks n mark ≡ true → mark ≡ Some n
marks_is n None e = absurd (cc)
marks_is n (Some m) e = ap Some (sym (eqb-true n m e))

module _ {E : Type 0} where
  -- The list's seat hears a pass, and the mark stays.
  hears_only : (k : ℕ) (s : State (Unit {0}) (SeatView E)) (h : HasStory k s) (l : Listed E)
      (p : Held E) (c : List (ℕ × Unit {0})) → get_elem? s.views 0 ≡ some (ListBeside l p)
      → HasStory k (stepped s 0 (slice_index s.words 0) 0 c (OfList l) keeps)
  hears_only k s h l p c at = let f = h.each 0 (ListBeside l p) at
      in stays k s h 0 0 c (OfList l) (f.0, f.1)

  -- The list's seat hears a pass, and the mark is cleared, since the pass has taken its entry in.
  unmarked : Listed E → Listed E
  unmarked l = record { list = l.list; numbers = l.numbers; callers = l.callers; pending = None }

  cleared : Story E → Story E
  cleared t = record {
    list = t.list;
    numbers = t.numbers;
    pending = None;
    callers = t.callers;
    next = t.next;
    owner = t.owner;
    mine = t.mine;
  }

  no_longer : (t : Story E) (l : Listed E) (p : Held E) → IsList t l → WasPass t p → l.pending
      ≡ Some p.number → length (entries_in p.number l) ≤ length p.mine
      → (n : ℕ) → Counts t.pending n (entries_of n t.numbers t.list) (t.mine n)
      → entries_of n t.numbers t.list ≡ t.mine n
  no_longer t l p is was mark short n counts =
      ⊎_elim (λ e. e)
      (λ (x : (t.pending ≡ Some n)
      × ((x : ℕ × E) × (entries_of n t.numbers t.list ≡ t.mine n ++ x ∷ []))).
      let same : p.number ≡ n = same_Some p.number n (sym mark ∙ is.pending ∙ x.0) in
      absurd (too_long n same x.1.0 x.1.1))
      counts
    where
      too_long : (n : ℕ) → p.number ≡ n → (x : ℕ × E) → entries_of n t.numbers t.list ≡ t.mine n
          ++ x ∷ [] → ⊥
      too_long n same x more =
          let here : length (entries_in p.number l) ≡ length (entries_of n t.numbers t.list) =
          ap length (own_entries t l is p.number)
          ∙ ap (λ (m : ℕ). length (entries_of m t.numbers t.list)) same in
          let there : length (t.mine p.number) ≡ length (t.mine n) =
          ap (λ (m : ℕ). length (t.mine m)) same in
          omega (
            arith,
            prefix_length p.mine (t.mine p.number) was.mine,
            ap length more,
            length-append (t.mine n) (x ∷ []),
          )

  clears : (k : ℕ) (s : State (Unit {0}) (SeatView E)) (h : HasStory k s) (l : Listed E)
      (p : Held E) (c : List (ℕ × Unit {0})) → get_elem? s.views 0 ≡ some (ListBeside l p)
      → l.pending ≡ Some p.number → length (entries_in p.number l) ≤ length p.mine
      → HasStory k (stepped s 0 (slice_index s.words 0) 0 c (OfList (unmarked l)) keeps)
  unfolding unmarked cleared
  clears k s h l p c at mark short =
      let t = h.story in
      let f = h.each 0 (ListBeside l p) at in
      let is = f.1 refl in
      let whole = λ (n : ℕ). no_longer t l p is f.2 mark short n (h.counted n) in
      record {
        story = cleared t;
        callers_are = h.callers_are;
        words = set-get_or s.words 0 0 ∙ h.words;
        room = h.room;
        even = h.even;
        below = h.below;
        marked = λ n e. absurd (none-some n e);
        owned = λ n d. let o = h.owned n d in let e = length-set s.views 0 (OfList (unmarked l))
            in omega arith;
        undrawn = h.undrawn;
        counted = λ n. inl (whole n);
        each = each_set t (cleared t) s.views 0 (OfList (unmarked l))
            (λ j v ne g. fits_on t (cleared t) j v on (λ e. absurd (ne e)) (λ n d e. refl) g) (
              record {
                list = f.0.list;
                numbers = f.0.numbers;
                even = f.0.even;
                callers = f.0.callers;
                taken = λ none n. prefix_same (entries_in n l) (t.mine n) (own_entries t l is n
                    ∙ whole n);
              },
              (λ e. record { list = is.list; numbers = is.numbers; pending = refl }),
            )
            h.each;
      }
    where
      on : Grows h.story (cleared h.story)
      on = record {
        list = prefix_refl h.story.list;
        numbers = prefix_refl h.story.numbers;
        callers = refl;
        next = omega arith;
        owner = λ n d. refl;
        mine =
            λ n. prefix_refl (h.story.mine n);
      }

  hears_kept : (k : ℕ) (s : State (Unit {0}) (SeatView E)) (h : HasStory k s) (l : Listed E)
      (p : Held E) (c : List (ℕ × Unit {0})) → get_elem? s.views 0 ≡ some (ListBeside l p)
      → (b : Bool)
      → (marks p.number l.pending && leb (length (entries_in p.number l)) (length p.mine)) ≡ b
      → HasStory k (stepped s 0 (slice_index s.words 0) 0 c
      (OfList (record {
        list = l.list;
        numbers = l.numbers;
        callers = l.callers;
        pending =
            cond b None l.pending;
      })) keeps)
  unfolding unmarked
  hears_kept k s h l p c at true e =
      let both = and_parts (marks p.number l.pending)
      (leb (length (entries_in p.number l)) (length p.mine)) e in
      clears k s h l p c at (marks_is p.number l.pending both.0)
      (leb-true (length (entries_in p.number l)) (length p.mine) both.1)
  hears_kept k s h l p c at false e = hears_only k s h l p c at

  pub hears : (k slots : ℕ) (l : Listed E) (p : Held E) (c : List (ℕ × Unit {0}))
      → Allows (HasStory k) slots 0 (ListBeside l p, c) 0 (λ n. n)
      (λ n w. (w ≡ (OfList (heard l p), c)) × Agrees l p)
  hears k slots l p c s h homes at small =
      let t = h.story in
      let f = h.each 0 (ListBeside l p) at in
      let is = f.1 refl in (
        OfList (heard l p),
        keeps,
        tt,
        hears_kept k s h l p c at (marks p.number l.pending
            && leb (length (entries_in p.number l)) (length p.mine)) refl,
        (
          refl,
          record {
            seen = subst (λ (xs : List E). IsPrefix p.seen xs) (sym is.list) f.2.seen;
            mine = λ none. subst (λ (xs : List (ℕ × E)). IsPrefix p.mine xs)
                (sym (own_entries t l is p.number
                ∙ settled t p.number (sym is.pending ∙ none) (h.counted p.number))) f.2.mine;
            number = (let d = f.2.drawn in let room = h.room in let same =
                f.0.callers in omega arith);
            even = f.0.even;
          },
        ),
      )

  -- A pass's seat learns the list: the list's entries with its number are its own, or its own
  -- followed by the pending one.
  abbrev Takes : Story E → Held E → List (ℕ × E) → Type 0
  Takes t p mine = IsPrefix p.mine mine
      × Counts t.pending p.number (entries_of p.number t.numbers t.list) mine

  takes_old : (t : Story E) (p : Held E) → t.mine p.number ≡ p.mine
      → Counts t.pending p.number (entries_of p.number t.numbers t.list) (t.mine p.number)
      → Takes t p p.mine
  takes_old t p own counts = (
    prefix_refl p.mine,
    subst (λ (xs : List (ℕ × E)). Counts t.pending p.number (entries_of p.number t.numbers t.list)
        xs) own counts,
  )

  takes_new : (t : Story E) (p : Held E) (entries : List (ℕ × E))
      → IsPrefix entries (entries_of p.number t.numbers t.list) → t.mine p.number ≡ p.mine
      → length p.mine < length entries
      → Counts t.pending p.number (entries_of p.number t.numbers t.list) (t.mine p.number)
      → Takes t p entries
  takes_new t p entries part own short counts =
      ⊎_elim
      (λ (e : entries_of p.number t.numbers t.list ≡ t.mine p.number). absurd
      (omega (
        arith,
        prefix_length entries (entries_of p.number t.numbers t.list) part,
        ap length e,
        ap length own,
      )))
      (λ (x : (t.pending ≡ Some p.number)
      × ((x : ℕ × E) × (entries_of p.number t.numbers t.list ≡ t.mine p.number ++ x ∷ []))).
      one_more x.1.0 (x.1.1 ∙ ap (λ (l : List (ℕ × E)). l ++ x.1.0 ∷ []) own))
      counts
    where
      one_more : (x : ℕ × E) → entries_of p.number t.numbers t.list ≡ p.mine ++ x ∷ []
          → Takes t p entries
      one_more x e =
          let long : length (entries_of p.number t.numbers t.list) ≤ length entries =
          omega (arith, ap length e, length-append p.mine (x ∷ [])) in
          let whole = prefix_whole entries (entries_of p.number t.numbers t.list) part long in
          ((x ∷ [], sym e ∙ sym whole), inl (sym whole))

  takes : (t : Story E) (p : Held E) (l : Listed E) → WasList t l → t.mine p.number ≡ p.mine
      → Counts t.pending p.number (entries_of p.number t.numbers t.list) (t.mine p.number)
      → Takes t p (longest p.mine (entries_in p.number l))
  takes t p l was own counts =
      ⊎_elim
      (λ (short : length p.mine < length (entries_in p.number l)). subst (Takes t p)
      (cond_below (length p.mine) (length (entries_in p.number l)) (entries_in p.number l) p.mine
      short)
      (takes_new t p (entries_in p.number l)
      (entries-prefix p.number l.numbers t.numbers l.list t.list was.even was.numbers was.list)
      own short counts))
      (λ (long : length (entries_in p.number l) ≤ length p.mine). subst (Takes t p)
      (cond_above (length p.mine) (length (entries_in p.number l)) (entries_in p.number l) p.mine
      p.mine long refl)
      (takes_old t p own counts))
      (cases_lt (length p.mine) (length (entries_in p.number l)))

  -- the story after the number n gets these own entries
  with_mine : Story E → ℕ → List (ℕ × E) → Story E
  with_mine t n mine = record {
    list = t.list;
    numbers = t.numbers;
    pending = t.pending;
    callers =
        t.callers;
    next = t.next;
    owner = t.owner;
    mine = λ m. cond (eqb m n) mine (t.mine m);
  }

  at_mine : (t : Story E) (n : ℕ) (mine : List (ℕ × E)) (P : List (ℕ × E) → ℕ → Type 0) → P mine n
      → ((m : ℕ) → m ≢ n → P (t.mine m) m) → (m : ℕ) → P (cond (eqb m n) mine (t.mine m)) m
  at_mine t n mine P here others m =
      ⊎_elim
      (λ (e : m ≡ n). subst (λ (b : Bool). P (cond b mine (t.mine m)) m) (sym (eq-eqb m n e))
      (subst (P mine) (sym e) here))
      (λ (ne : m ≢ n). subst (λ (b : Bool). P (cond b mine (t.mine m)) m) (sym (ne_eqb m n ne))
      (others m ne))
      (cases_eq m n)

  learns_kept : (k : ℕ) (s : State (Unit {0}) (SeatView E)) (h : HasStory k s) (seat : ℕ)
      (p : Held E) (l : Listed E) (c : List (ℕ × Unit {0})) → seat ≡ p.seat → get_elem? s.views seat
      ≡ some (PassBeside p l)
      → HasStory k (stepped s 0 (slice_index s.words 0) seat c (OfPass (learned p l)) keeps)
  unfolding with_mine
  learns_kept k s h seat p l c own at =
      let t = h.story in
      let f = h.each seat (PassBeside p l) at in
      let mine = longest p.mine (entries_in p.number l) in
      let took = takes t p l f.2 (f.1 own) (h.counted p.number) in
      let u = with_mine t p.number mine in
      let on : Grows t u = record {
        list = prefix_refl t.list;
        numbers = prefix_refl t.numbers;
        callers = refl;
        next = omega arith;
        owner = λ n d. refl;
        mine = at_mine t p.number mine (λ (xs : List (ℕ × E)) (n : ℕ). IsPrefix (t.mine n) xs)
            (subst (λ (xs : List (ℕ × E)). IsPrefix xs mine) (sym (f.1 own)) took.0)
            (λ n ne. prefix_refl (t.mine n));
      } in
      let here : u.mine p.number ≡ mine = ap (λ (b : Bool). cond b mine (t.mine p.number))
      (eq-eqb p.number p.number refl) in
      record {
        story = u;
        callers_are = h.callers_are;
        words = set-get_or s.words 0 0 ∙ h.words;
        room = h.room;
        even = h.even;
        below = h.below;
        marked = h.marked;
        owned = λ n d. let o = h.owned n d in let e = length-set s.views seat (OfPass (learned p l))
            in omega arith;
        undrawn = at_mine t p.number mine (λ (xs : List (ℕ × E)) (n : ℕ). t.next ≤ n → xs ≡ [])
            (λ d. absurd (let drawn = f.0.drawn in omega arith)) (λ n ne d. h.undrawn n d);
        counted = at_mine t p.number mine
            (λ (xs : List (ℕ × E)) (n : ℕ). Counts t.pending n (entries_of n t.numbers t.list) xs)
            took.1 (λ n ne. h.counted n);
        each = each_set t u s.views seat (OfPass (learned p l))
            (λ j v ne g. fits_on t u j v on
            (λ e. record { list = refl; numbers = refl; pending = refl })
            (λ n d e. ap (λ (b : Bool). cond b mine (t.mine n))
            (ne_eqb n p.number (λ same. ne (sym e ∙ ap t.owner same ∙ f.0.owner ∙ sym own)))) g) (
              record {
                owner = f.0.owner;
                drawn = f.0.drawn;
                callers = f.0.callers;
                seen = prefix_longest p.seen l.list t.list f.0.seen f.2.list;
                mine = prefix_same mine (u.mine p.number) (sym here);
              },
              (λ e. here),
            )
            h.each;
      }

  pub learns : (k slots seat : ℕ) (p : Held E) (l : Listed E) (c : List (ℕ × Unit {0})) → seat
      ≡ p.seat
      → Allows (HasStory k) slots seat (PassBeside p l, c) 0 (λ n. n)
      (λ n w. (w ≡ (OfPass (learned p l), c)) × Owns p l)
  learns k slots seat p l c own s h homes at small =
      let f = h.each seat (PassBeside p l) at in (
        OfPass (learned p l),
        keeps,
        tt,
        learns_kept k s h seat p l c own at,
        (
          refl,
          λ none. subst (λ (xs : List (ℕ × E)). IsPrefix (entries_in p.number l) xs) (f.1 own)
              (f.2.taken none p.number),
        ),
      )

  -- the closing load keeps the rule
  pub closes : (k slots : ℕ) (l : Listed E) (c : List (ℕ × Unit {0}))
      → Allows (HasStory k) slots 0 (OfList l, c) 0 (λ n. n)
      (λ n w. (w ≡ (OfList l, c)) × IsComplete l)
  closes k slots l c s h homes at small =
      let t = h.story in
      let f = h.each 0 (OfList l) at in
      let is = f.1 refl in
      let callers : l.callers ≡ t.callers = f.0.callers in
      let room = h.room in (
        OfList l,
        keeps,
        tt,
        stays k s h 0 0 c (OfList l) f,
        (
          refl,
          record {
            below = All-same (λ m. m < l.callers) l.numbers t.numbers is.numbers
                (All-weaker (λ m. m < t.next) (λ m. m < l.callers) (λ m d. omega arith) t.numbers
                h.below);
            even = f.0.even;
          },
        ),
      )
