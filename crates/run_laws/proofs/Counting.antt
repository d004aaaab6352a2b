-- How often a place is added, counted over the journals and over the passes.
use Rattle.std.proofs.Common.{◌≡◌, ℕ, ◌+◌, ◌<◌, Bool, true, false, ◌||◌, cond, List, [], ◌∷◌, ◌++◌, Option, Some, None, refl, sym, ◌∙◌, ap, subst, arith, inl, inr}
use Rattle.std.specs.Prelude.{◌⊎◌, ◌==◌, All, Contains, count_by, sum_by}
use Rattle.std.specs.List.{AllZip}
use Rattle.std.proofs.lemmas.Bool.{eqb-true, ne_eqb}
use Rattle.std.proofs.lemmas.List.{append-nil}
use Rattle.std.proofs.lemmas.List.Elements.{All-head, All-tail, All-contains, Contains-append_left, Contains-append_right, Contains-append_cases}
use Rattle.std.proofs.lemmas.List.Sums.{sum_by-cons}
use Rattle.list_lemmas.proofs.Properties.{all_from}
use Rattle.grow_list.specs.Entries.{has_place}
use Rattle.grow_list.specs.Shown.{Passed}
use Rattle.ima_templates.specs.declared.entry.Entry.{Entry}
use Rattle.inode_events.specs.Inode.{Inode}
use Rattle.inode_events.specs.Listing.{Listed, adds, entries_added, finds, listed_in}
use Rattle.inode_events.specs.Merged.{Journal, Named, PlacesRise, named, places_added, places_named, times_added}
use Rattle.inode_events.specs.declared.told.Event.{Event}
use Rattle.run_laws.specs.Laws.{InodeClosed}

-- a place that is added is named
added_is_named : (i : Inode) (p : List Event) (n : Named) → Contains (places_added i p) n
    → Contains (places_named i p) n
added_is_named i [] n h = h
added_is_named i (e ∷ p) n h = at (added_is_named i p n)
    (Contains-append_cases (named e.who (adds i e.deed e.told p)) (places_added i p) n h) where
      at : (Contains (places_added i p) n → Contains (places_named i p) n)
          → Contains (named e.who (adds i e.deed e.told p)) n ⊎ Contains (places_added i p) n
          → Contains (places_named i (e ∷ p)) n
      at ih (inl a) =
          Contains-append_left
          (named e.who (adds i e.deed e.told p) ++ named e.who (finds i e.deed e.told p))
          (places_named i p) n
          (Contains-append_left (named e.who (adds i e.deed e.told p))
          (named e.who (finds i e.deed e.told p)) n a)
      at ih (inr b) = Contains-append_right
          (named e.who (adds i e.deed e.told p) ++ named e.who (finds i e.deed e.told p))
          (places_named i p) n (ih b)

-- a place above all named ones isn't added
times_none : (k : ℕ) (ns : List Named) → All (λ n. n.1 < k) ns → times_added k ns ≡ 0
times_none k [] h = refl
times_none k (n ∷ ns) h =
    let l : n.1 < k = All-head (λ (m : Named). m.1 < k) n ns h in
    let b : (n.1 == k) ≡ false = ne_eqb n.1 k (λ e. absurd (omega arith)) in
    ap (λ (c : Bool). cond c (1 + times_added k ns) (times_added k ns)) b
    ∙ times_none k ns (All-tail (λ (m : Named). m.1 < k) n ns h)

-- "or" groups either way
or_more : (a b c : Bool) → (a || (b || c)) ≡ ((a || b) || c)
or_more true b c = refl
or_more false b c = refl

-- whether a place is among the entries, after one more entry
has_more : (k : ℕ) (xs : List Listed) (x : Listed)
    → has_place k (xs ++ x ∷ []) ≡ (has_place k xs || (x.0 == k))
has_more k [] x = or_false (x.0 == k) where
  or_false : (b : Bool) → (b || false) ≡ b
  or_false true = refl
  or_false false = refl
has_more k (y ∷ xs) x = ap (λ (b : Bool). (y.0 == k) || b) (has_more k xs x)
    ∙ or_more (y.0 == k) (has_place k xs) (x.0 == k)

-- "or" with a test that holds
or_true : (a b : Bool) → b ≡ true → (a || b) ≡ true
or_true true b e = refl
or_true false b e = e

-- "or" with a test that doesn't hold
or_no : (a b : Bool) → b ≡ false → (a || b) ≡ a
or_no true b e = refl
or_no false b e = e

-- if places rise, each is added at most once
pub times_of : (i : Inode) (k : ℕ) (p : List Event) → PlacesRise i p
    → times_added k (places_added i p) ≡ cond (has_place k (entries_added i p)) 1 0
times_of i k [] r = refl
times_of i k (e ∷ p) r = at (times_of i k p r.1) (adds i e.deed e.told p) r.0 where
  with_place : times_added k (places_added i p) ≡ cond (has_place k (entries_added i p)) 1 0
      → (x : Listed) → All (λ n. n.1 < x.0) (places_named i p) → (b : Bool) → (x.0 == k) ≡ b
      → cond b (1 + times_added k (places_added i p)) (times_added k (places_added i p)) ≡ cond
      (has_place k (entries_added i p) || (x.0 == k)) 1 0
  with_place ih x above true q =
      let below : All (λ n. n.1 < k) (places_added i p) =
      all_from (λ (n : Named). n.1 < k) (places_added i p)
      (λ n c. subst (λ (m : ℕ). n.1 < m) (eqb-true x.0 k q)
      (All-contains (λ (m : Named). m.1 < x.0) (places_named i p) n above
      (added_is_named i p n c))) in
      ap (λ (m : ℕ). 1 + m) (times_none k (places_added i p) below)
      ∙ sym (ap (λ (c : Bool). cond c 1 0) (or_true (has_place k (entries_added i p)) (x.0 == k) q))
  with_place ih x above false q = ih
      ∙ sym (ap (λ (c : Bool). cond c 1 0) (or_no (has_place k (entries_added i p)) (x.0 == k) q))

  at : times_added k (places_added i p) ≡ cond (has_place k (entries_added i p)) 1 0
      → (o : Option Listed)
      → All (λ added. All (λ n. n.1 < added.1) (places_named i p)) (named e.who o)
      → times_added k (named e.who o ++ places_added i p) ≡ cond
      (has_place k (entries_added i p ++ listed_in o)) 1 0
  at ih None h =
      ih ∙ ap (λ (l : List Listed). cond (has_place k l) 1 0) (sym (append-nil (entries_added i p)))
  at ih (Some x) h =
      let above : All (λ n. n.1 < x.0) (places_named i p) =
      All-head (λ (added : Named). All (λ (n : Named). n.1 < added.1) (places_named i p))
      (e.who, x.0) [] h in
      with_place ih x above (x.0 == k) refl
      ∙ ap (λ (b : Bool). cond b 1 0) (sym (has_more k (entries_added i p) x))

-- 1 if the test holds, else 0
abbrev pub bit : Bool → ℕ
bit b = cond b 1 0

-- how often the journal adds an entry at the place
abbrev pub times_in : ℕ → Journal → ℕ
times_in k j = times_added k (places_added j.inode j.events)

-- whether the pass has an entry at the place
abbrev pub has_in : ℕ → Passed Entry → Bool
has_in k q = has_place k q.mine

-- the count over the passes, with one more pass
pub count_cons : (k : ℕ) (q : Passed Entry) (qs : List (Passed Entry))
    → count_by (has_in k) (q ∷ qs) ≡ cond (has_in k q) 1 0 + count_by (has_in k) qs
count_cons k q qs = sum_by-cons (λ (x : Passed Entry). cond (has_in k x) 1 0) q qs

-- the journals add entries at a place as often as passes have one there
pub sum_times : (k : ℕ) (js : List Journal) (qs : List (Passed Entry)) → AllZip InodeClosed js qs
    → sum_by (times_in k) js ≡ count_by (has_in k) qs
sum_times k [] [] h = refl
sum_times k [] (q ∷ qs) h = absurd h
sum_times k (j ∷ js) [] h = absurd h
sum_times k (j ∷ js) (q ∷ qs) h =
    let here : times_in k j ≡ cond (has_in k q) 1 0 = times_of j.inode k j.events h.0.rise
    ∙ ap (λ (l : List Listed). cond (has_place k l) 1 0) (sym h.0.mine_is) in
    sum_by-cons (times_in k) j js ∙ ap (λ (n : ℕ). n + sum_by (times_in k) js) here
    ∙ ap (λ (n : ℕ). cond (has_in k q) 1 0 + n) (sum_times k js qs h.1)
    ∙ sym (count_cons k q qs)

-- passes without entries have none at any place
pub count_none : (k : ℕ) (qs : List (Passed Entry)) → All (λ q. q.mine ≡ []) qs
    → count_by (has_in k) qs ≡ 0
count_none k [] h = refl
count_none k (q ∷ qs) h =
    let here : bit (has_in k q) ≡ 0 = ap (λ (l : List Listed). cond (has_place k l) 1 0)
    (All-head (λ (x : Passed Entry). x.mine ≡ []) q qs h) in
    let rest : count_by (has_in k) qs ≡ 0 =
    count_none k qs (All-tail (λ (x : Passed Entry). x.mine ≡ []) q qs h) in
    let c : count_by (has_in k) (q ∷ qs) ≡ bit (has_in k q) + count_by (has_in k) qs =
    count_cons k q qs in
    omega arith
