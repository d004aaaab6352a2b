-- Properties of a concrete journal and list, from equations that hold by computation.
use Rattle.std.proofs.Common.{◌≡◌, ℕ, zero, suc, ◌+◌, ◌<◌, Bool, true, false, ◌&&◌, ◌||◌, not, List, [], ◌∷◌, ◌++◌, map, length, get_or, Option, Some, None, refl, sym, ◌∙◌, ap, subst, arith, inl, inr}
use Rattle.std.specs.Prelude.{if◌then◌else◌, ◌⊎◌, ◌==◌, nat_lt, All, Contains, slice_get}
use Rattle.std.proofs.lemmas.Bool.{and_parts, ltb-true}
use Rattle.std.proofs.lemmas.List.Elements.{All-cons, All-nil, Contains-append_cases}
use Rattle.std.proofs.lemmas.Option.{none-some, same_Some}
use Rattle.ima_templates.specs.Same.{place_of_same, same}
use Rattle.ima_templates.specs.declared.entry.Entry.{Entry}
use Rattle.inode_meta.specs.declared.step.Who.{Who}
use Rattle.inode_events.specs.Coverage.{IsAnswered, IsCovered, is_measuring}
use Rattle.inode_events.specs.Inode.{Inode}
use Rattle.inode_events.specs.Legal.{Follows, IsBorn, Legal}
use Rattle.inode_events.specs.Listing.{AreIn, IsFirstIn, IsListed, Listed, Mention, StandsIn, mentions}
use Rattle.inode_events.specs.Merged.{IsMerged, Journal, MentionsRise, Named, PlacesRise, all_named, is_earlier, named, places_added, places_named, times_added}
use Rattle.inode_events.specs.Says.{placed_in, says}
use Rattle.inode_events.specs.Stage.{Stage}
use Rattle.inode_events.specs.State.{content}
use Rattle.inode_events.specs.Stage.{Asked, CloseCollected, CloseCollecting, Collected, Collecting, Counted, Gone, Settled}
use Rattle.inode_events.specs.declared.deed.Deed.{Deed}
use Rattle.inode_events.specs.declared.deed.Deed.TheVariants as deed
use Rattle.inode_events.specs.declared.told.Event.{Event}
use Rattle.inode_events.specs.declared.told.Told.{Told}
use Rattle.inode_events.proofs.Examples.{born, is_at, may}

-- ---- the journal is legal

-- stages with the same number are the same
at_is : (a b : Stage) → is_at a b ≡ true → a ≡ b
at_is Gone Gone m = refl
at_is Counted Counted m = refl
at_is Asked Asked m = refl
at_is Collecting Collecting m = refl
at_is Collected Collected m = refl
at_is Settled Settled m = refl
at_is CloseCollecting CloseCollecting m = refl
at_is CloseCollected CloseCollected m = refl
at_is a b m = cc

-- if `may` is true, the deed's call has its precondition
pub follows : (i : Inode) (p : List Event) (who : Who) (d : Deed) (t : Told) → IsBorn p
    → may i p d ≡ true → says i p (placed_in t) d ≡ Some t → Follows i p who d t
follows i p who deed.Birth t b m s = cc
follows i p who (deed.Count how) t b m s = (b, tt, s)
follows i p who (deed.Check f func action rules) t b m s = (b, m, s)
follows i p who (deed.Take f) t b m s = (b, at_is _ _ m, s)
follows i p who (deed.Chunk f) t b m s = (b, at_is _ _ m, s)
follows i p who (deed.Finish f) t b m s = (b, at_is _ _ m, s)
follows i p who (deed.Read f from len) t b m s =
    let h = and_parts _ _ m in (b, (at_is _ _ h.0, h.1), s)
follows i p who (deed.Write f from bytes) t b m s =
    let h = and_parts _ _ m in
    let g = and_parts _ _ h.0 in (b, (at_is _ _ g.0, g.1, ltb-true _ _ h.1), s)
follows i p who (deed.Trunc f len) t b m s = let h = and_parts _ _ m in (b, (at_is _ _ h.0, h.1), s)
follows i p who (deed.SetAttr name bytes admin) t b m s = (b, tt, s)
follows i p who (deed.SetMeta change) t b m s = (b, tt, s)
follows i p who (deed.Close f) t b m s =
    let h = and_parts _ _ m in (b, (at_is _ _ h.0, not_true _ h.1), s) where
      not_true : (x : Bool) → not x ≡ true → x ≡ false
      not_true true e = sym e
      not_true false e = refl
follows i p who (deed.CloseTake f) t b m s = let h = and_parts _ _ m in (b, (at_is _ _ h.0, h.1), s)
follows i p who (deed.CloseChunk f) t b m s = (b, at_is _ _ m, s)
follows i p who (deed.CloseFinish f) t b m s = (b, at_is _ _ m, s)
follows i p who (deed.Post sem) t b m s = cc
follows i p who (deed.Wait sem) t b m s = cc

-- the journal with these events, given oldest first, appended to it
abbrev pub onto : List Event → List Event → List Event
onto before [] = before
onto before (e ∷ rest) = onto (e ∷ before) rest

-- each of the events is permitted after those before it
abbrev pub may_each : Inode → List Event → List Event → Bool
may_each i before [] = true
may_each i before (e ∷ rest) = may i before e.deed && may_each i (e ∷ before) rest

-- for each of the events, the outcome that the journal before it determines
abbrev pub says_each : Inode → List Event → List Event → List (Option Told)
says_each i before [] = []
says_each i before (e ∷ rest) =
    says i before (placed_in e.told) e.deed ∷ says_each i (e ∷ before) rest

-- equal lists have equal first elements
first_of : {X : Type 0} (a b : X) (xs ys : List X) → a ∷ xs ≡ b ∷ ys → a ≡ b
first_of a b xs ys e = cc

-- equal lists have equal rests
rest_of : {X : Type 0} (a b : X) (xs ys : List X) → a ∷ xs ≡ b ∷ ys → xs ≡ ys
rest_of a b xs ys e = cc

-- events that are permitted and have the outcomes that the journal determines keep a journal legal
legal_onto : (i : Inode) (before rest : List Event) → Legal i before → may_each i before rest ≡ true
    → says_each i before rest ≡ map (λ e. Some e.told) rest → Legal i (onto before rest)
legal_onto i before [] h m s = h
legal_onto i before (e ∷ rest) h m s =
    let parts = and_parts (may i before e.deed) (may_each i (e ∷ before) rest) m in
    let next = follows i before e.who e.deed e.told h.0 parts.0 (first_of _ _ _ _ s) in
    legal_onto i (e ∷ before) rest (tt, (next, h.1)) parts.1 (rest_of _ _ _ _ s)

-- a journal is legal if its deeds are permitted and have the outcomes that the journal determines
pub legal_by : (i : Inode) (events : List Event) → may_each i (born i) events ≡ true
    → says_each i (born i) events ≡ map (λ e. Some e.told) events → Legal i (onto (born i) events)
legal_by i events m s = legal_onto i (born i) events (tt, ((refl, refl, refl), tt)) m s

-- ---- the entries are in the list

-- the list with one more element in front, if there is an entry
abbrev pub put_on : {X : Type 0} → Option Listed → (Listed → X) → List X → List X
put_on None f rest = rest
put_on (Some l) f rest = f l ∷ rest

-- the entries of the list at the indices of the added entries
abbrev pub entries_at : List Entry → List Mention → List (Option Entry)
entries_at list [] = []
entries_at list (m ∷ earlier) = put_on m.added (λ l. slice_get list l.0) (entries_at list earlier)

-- the added entries
abbrev pub added_of : List Mention → List (Option Entry)
added_of [] = []
added_of (m ∷ earlier) = put_on m.added (λ l. Some l.1) (added_of earlier)

-- the indices at which the list first has the found entries
abbrev pub places_of : List Entry → List Mention → List (Option ℕ)
places_of list [] = []
places_of list (m ∷ earlier) = put_on m.found (λ l. place_of_same list l.1) (places_of list earlier)

-- the indices at which entries were found
abbrev pub found_of : List Mention → List (Option ℕ)
found_of [] = []
found_of (m ∷ earlier) = put_on m.found (λ l. Some l.0) (found_of earlier)

-- equal lists of entries begin with the same one, so the added entry is in the list
stands : (list : List Entry) (o : Option Listed) (xs ys : List (Option Entry))
    → put_on o (λ l. slice_get list l.0) xs ≡ put_on o (λ l. Some l.1) ys → StandsIn list o
    × (xs ≡ ys)
stands list None xs ys e = (tt, e)
stands list (Some l) xs ys e = (first_of _ _ _ _ e, rest_of _ _ _ _ e)

-- equal lists of indices begin with the same one, so the found entry is in the list, first at its
-- index
is_first : (list : List Entry) (o : Option Listed) (xs ys : List (Option ℕ))
    → put_on o (λ l. place_of_same list l.1) xs ≡ put_on o (λ l. Some l.0) ys → IsFirstIn list o
    × (xs ≡ ys)
is_first list None xs ys e = (tt, e)
is_first list (Some l) xs ys e = (first_of _ _ _ _ e, rest_of _ _ _ _ e)

-- if the lists are equal, the list has all entries that were added and found
are_in : (list : List Entry) (ms : List Mention) → entries_at list ms ≡ added_of ms
    → places_of list ms ≡ found_of ms → AreIn list ms
are_in list [] a f = tt
are_in list (m ∷ ms) a f =
    let x = stands list m.added (entries_at list ms) (added_of ms) a in
    let y = is_first list m.found (places_of list ms) (found_of ms) f in
    (x.0, y.0, are_in list ms x.1 y.1)

-- a journal is listed, by two equations that hold by computation
pub listed_by : (i : Inode) (list : List Entry) (p : List Event)
    → entries_at list (mentions i p) ≡ added_of (mentions i p)
    → places_of list (mentions i p) ≡ found_of (mentions i p) → IsListed i list p
listed_by i list p a f = are_in list (mentions i p) a f

-- ---- the read is covered

-- an answer for each check of the file that measures
abbrev pub answer_to : Bool → Type 0 → Type 0 → Type 0
answer_to true answer rest = answer × rest
answer_to false answer rest = rest

-- the answers that a journal requires, one for each of its checks that measure; `done` are the
-- events after them
abbrev pub Answers : Inode → List Entry → ℕ → List ℕ → List Event → List Event → Type 0
Answers i list file bytes done [] = Unit {0}
Answers i list file bytes done (e ∷ before) =
    answer_to (is_measuring file e.deed) (IsAnswered i list file bytes done e)
    (Answers i list file bytes (done ++ e ∷ []) before)

-- the answer to this check, if one is required, and the answers to the others
taken : (b : Bool) (A R : Type 0) → answer_to b A R → (b ≡ true → A) × R
taken true A R h = ((λ y. h.0), h.1)
taken false A R h = ((λ y. cc), h)

-- an element moves from the end of one list to the front of the next
append_one : {X : Type 0} (xs : List X) (x : X) (ys : List X) → (xs ++ x ∷ []) ++ ys ≡ xs ++ x ∷ ys
append_one [] x ys = refl
append_one (z ∷ zs) x ys = ap (λ l. z ∷ l) (append_one zs x ys)

-- appending the empty list changes nothing
append_none : {X : Type 0} (xs : List X) → xs ++ [] ≡ xs
append_none [] = refl
append_none (z ∷ zs) = ap (λ l. z ∷ l) (append_none zs)

-- given all answers, each check that measures has its own, however the journal is split
covered : (i : Inode) (list : List Entry) (file : ℕ) (bytes : List ℕ) (done events : List Event)
    → Answers i list file bytes done events
    → (later : List Event) (check : Event) (before : List Event) → events ≡ later ++ check ∷ before
    → is_measuring file check.deed ≡ true
    → IsAnswered i list file bytes (done ++ later) check
covered i list file bytes done [] h [] check before e m = cc
covered i list file bytes done [] h (x ∷ later) check before e m = cc
covered i list file bytes done (x ∷ rest) h [] check before e m =
    let same : x ≡ check = first_of _ _ _ _ e in
    subst (λ (d : List Event). IsAnswered i list file bytes d check) (sym (append_none done))
    (subst (λ (c : Event). IsAnswered i list file bytes done c) same
    ((taken (is_measuring file x.deed) _ _ h).0 (ap (λ (c : Event). is_measuring file c.deed) same
    ∙ m)))
covered i list file bytes done (x ∷ rest) h (y ∷ later) check before e m =
    let same : x ≡ y = first_of _ _ _ _ e in
    subst (λ (d : List Event). IsAnswered i list file bytes d check) (append_one done x later
    ∙ ap (λ (c : Event). done ++ c ∷ later) same)
    (covered i list file bytes (done ++ x ∷ []) rest
    (taken (is_measuring file x.deed) _ _ h).1 later check before (rest_of _ _ _ _ e) m)

-- a read is covered, by one answer for each check that measures
pub covered_by : (i : Inode) (list : List Entry) (file : ℕ) (p : List Event)
    → Answers i list file (content p) [] p → IsCovered i list file p
covered_by i list file p h later check before e m =
    covered i list file (content p) [] p h later check before e m

-- ---- the list is merged

-- for each later entry, whether it is the same as this one
abbrev pub none_same : Entry → List Entry → List Bool
none_same x [] = []
none_same x (y ∷ ys) = same x y ∷ none_same x ys

-- no two entries of the list are the same
abbrev pub AreApart : List Entry → Type 0
AreApart [] = Unit {0}
AreApart (x ∷ xs) = (none_same x xs ≡ map (λ y. false) xs) × AreApart xs

-- the first entry isn't the same as any later one
apart_first : (x : Entry) (xs : List Entry) (b : ℕ) (y : Entry)
    → none_same x xs ≡ map (λ y. false) xs → slice_get xs b ≡ Some y → same x y ≡ false
apart_first x [] b y n g = absurd (none-some y g)
apart_first x (z ∷ zs) zero y n g = ap (same x) (sym (same_Some z y g)) ∙ first_of _ _ _ _ n
apart_first x (z ∷ zs) (suc b) y n g = apart_first x zs b y (rest_of _ _ _ _ n) g

-- in a list of distinct entries, no two indices have the same entry
pub distinct_by : (list : List Entry) → AreApart list
    → (a b : ℕ) (x y : Entry) → a < b → slice_get list a ≡ Some x → slice_get list b ≡ Some y
    → same x y ≡ false
distinct_by [] h a b x y l ga gb = absurd (none-some x ga)
distinct_by (z ∷ zs) h zero zero x y l ga gb = absurd (omega arith)
distinct_by (z ∷ zs) h zero (suc b) x y l ga gb =
    ap (λ (w : Entry). same w y) (sym (same_Some z x ga)) ∙ apart_first z zs b y h.0 gb
distinct_by (z ∷ zs) h (suc a) zero x y l ga gb = absurd (omega arith)
distinct_by (z ∷ zs) h (suc a) (suc b) x y l ga gb = distinct_by zs h.1 a b x y (omega arith) ga gb

-- each index that an earlier step of the same task reported is below each index added by a later
-- one
abbrev pub rises_over : Named → List Named → Bool
rises_over n [] = true
rises_over n (a ∷ rest) = (not (is_earlier n.0 a.0) || nat_lt n.1 a.1) && rises_over n rest

-- each reported index is below each index that a later step of the same task added
abbrev pub all_rise : List Named → List Named → Bool
all_rise [] added = true
all_rise (n ∷ rest) added = rises_over n added && all_rise rest added

-- a list of one element contains only that element
pub one_has : {X : Type 0} (y x : X) → Contains (y ∷ []) x → y ≡ x
one_has {X} y x h = at h.0 h.1 h.2 where
  at : (k : ℕ) → k < 1 → get_or (y ∷ []) k x ≡ x → y ≡ x
  at zero l e = e
  at (suc k) l e = absurd (omega arith)

-- the empty list contains nothing
pub has_none : {X : Type 0} (x : X) → Contains [] x → ⊥
has_none x h = let l : h.0 < 0 = h.1 in absurd (omega arith)

-- an element of a list is its first one or an element of the rest
has_cases : {X : Type 0} (y x : X) (xs : List X) → Contains (y ∷ xs) x → (y ≡ x) ⊎ Contains xs x
has_cases {X} y x xs h = at (Contains-append_cases (y ∷ []) xs x h) where
  at : Contains (y ∷ []) x ⊎ Contains xs x → (y ≡ x) ⊎ Contains xs x
  at (inl a) = inl (one_has y x a)
  at (inr b) = inr b

-- if the step is earlier and the test passes, its index is below
below : (n a : Named) (b : Bool) → b ≡ true → (not b || nat_lt n.1 a.1) ≡ true → n.1 < a.1
below n a true y o = ltb-true n.1 a.1 o
below n a false y o = cc

-- an index reported by an earlier step is below each index added by a later one
rises : (n a : Named) (added : List Named) → rises_over n added ≡ true → Contains added a
    → is_earlier n.0 a.0 ≡ true → n.1 < a.1
rises n a [] r c e = absurd (has_none a c)
rises n a (x ∷ rest) r c e =
    let parts = and_parts (not (is_earlier n.0 x.0) || nat_lt n.1 x.1) (rises_over n rest) r in
    at (has_cases x a rest c) parts.0 (λ t. rises n a rest parts.1 t e) where
      at : (x ≡ a) ⊎ Contains rest a → (not (is_earlier n.0 x.0) || nat_lt n.1 x.1) ≡ true
          → (Contains rest a → n.1 < a.1) → n.1 < a.1
      at (inl s) o more = below n a (is_earlier n.0 a.0) e
          (subst (λ (w : Named). (not (is_earlier n.0 w.0) || nat_lt n.1 w.1) ≡ true) s o)
      at (inr t) o more = more t

-- each reported index is below each index that a later step added
pub rise_by : (named added : List Named) → all_rise named added ≡ true → (n a : Named)
    → Contains named n → Contains added a → is_earlier n.0 a.0 ≡ true → n.1 < a.1
rise_by [] added r n a c d e = absurd (has_none n c)
rise_by (x ∷ rest) added r n a c d e =
    let parts = and_parts (rises_over x added) (all_rise rest added) r in
    at (has_cases x n rest c) parts.0 (λ t. rise_by rest added parts.1 n a t d e) where
      at : (x ≡ n) ⊎ Contains rest n → rises_over x added ≡ true → (Contains rest n → n.1 < a.1)
          → n.1 < a.1
      at (inl s) o more = rises n a added (subst (λ (w : Named). rises_over w added ≡ true) s o) d e
      at (inr t) o more = more t

-- the index is above each of the reported ones
abbrev pub above_each : ℕ → List Named → Bool
above_each place [] = true
above_each place (n ∷ rest) = nat_lt n.1 place && above_each place rest

-- each added index is above each of the reported ones
abbrev pub added_above : List Named → List Named → Bool
added_above [] named = true
added_above (a ∷ rest) named = above_each a.1 named && added_above rest named

-- each added index is above all those reported before it
abbrev pub mentions_rise : List Mention → Bool
mentions_rise [] = true
mentions_rise (m ∷ earlier) =
    added_above (named m.who m.added) (all_named earlier) && mentions_rise earlier

-- if the test passes, all reported indices are below
above_all : (place : ℕ) (ns : List Named) → above_each place ns ≡ true → All (λ n. n.1 < place) ns
above_all place [] h = All-nil (λ n. n.1 < place)
above_all place (n ∷ rest) h =
    let parts = and_parts (nat_lt n.1 place) (above_each place rest) h in
    All-cons (λ n. n.1 < place) n rest (ltb-true n.1 place parts.0) (above_all place rest parts.1)

-- if the test passes, all reported indices are below each added one
added_all : (added ns : List Named) → added_above added ns ≡ true
    → All (λ a. All (λ n. n.1 < a.1) ns) added
added_all [] ns h = All-nil (λ a. All (λ n. n.1 < a.1) ns)
added_all (a ∷ rest) ns h =
    let parts = and_parts (above_each a.1 ns) (added_above rest ns) h in
    All-cons (λ a. All (λ n. n.1 < a.1) ns) a rest (above_all a.1 ns parts.0)
    (added_all rest ns parts.1)

-- if the test passes, the indices of added entries increase along the mentions
pub rising : (ms : List Mention) → mentions_rise ms ≡ true → MentionsRise ms
rising [] h = tt
rising (m ∷ earlier) h =
    let parts = and_parts (added_above (named m.who m.added) (all_named earlier))
    (mentions_rise earlier) h in
    (added_all (named m.who m.added) (all_named earlier) parts.0, rising earlier parts.1)

-- the list of a run over one inode is merged from its journal
pub merged_by : (boot : Entry) (list : List Entry) (i : Inode) (p : List Event)
    → slice_get list 0 ≡ Some boot → IsListed i list p
    → ((place : ℕ) → place < length list
    → 0 + times_added place (places_added i p) ≡ (if place == 0 then 0 else 1))
    → mentions_rise (mentions i p) ≡ true → all_rise (places_named i p) (places_added i p) ≡ true
    → AreApart list
    → IsMerged boot list (record { inode = i; events = p } ∷ [])
merged_by boot list i p first listed once along tasks apart = record {
  first = first;
  listed = All-cons (λ j. IsListed j.inode list j.events) (record { inode = i; events = p }) []
      listed (All-nil (λ j. IsListed j.inode list j.events));
  once = once;
  along_journals = All-cons (λ j. PlacesRise j.inode j.events) (record { inode = i; events = p }) []
      (rising (mentions i p) along) (All-nil (λ j. PlacesRise j.inode j.events));
  along_tasks = λ j k earlier later cj ck ce cl e. by_tasks j k
      (one_has (record { inode = i; events = p }) j cj)
      (one_has (record { inode = i; events = p }) k ck) earlier later ce cl e;
  distinct = distinct_by list apart;
} where
  by_tasks : (j k : Journal) → record { inode = i; events = p } ≡ j
      → record { inode = i; events = p } ≡ k → (earlier later : Named)
      → Contains (places_named j.inode j.events) earlier
      → Contains (places_added k.inode k.events) later
      → is_earlier earlier.0 later.0 ≡ true → earlier.1 < later.1
  by_tasks j k ej ek earlier later ce cl e =
      rise_by (places_named i p) (places_added i p) tasks earlier later
      (subst (λ (x : Journal). Contains (places_named x.inode x.events) earlier) (sym ej) ce)
      (subst (λ (x : Journal). Contains (places_added x.inode x.events) later) (sym ek) cl) e
