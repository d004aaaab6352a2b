-- Grants that report the same entries have shown the same bytes.
use Rattle.std.proofs.Common.{◌≡◌, ℕ, zero, suc, Bool, true, false, ◌||◌, All, List, [], ◌∷◌, Option, Some, None, slice_get, refl, ap, sym, subst, ◌∙◌, ⊎_elim}
use Rattle.std.specs.Prelude.{reverse}
use Rattle.std.specs.List.{list_any}
use Rattle.std.proofs.Math.Bool.{or-false}
use Rattle.std.proofs.lemmas.Bool.{or_cases, or_left, or_right, true≢false}
use Rattle.std.proofs.lemmas.List.{reverse-append}
use Rattle.std.proofs.lemmas.List.Elements.{All-head, All-tail}
use Rattle.std.proofs.lemmas.List.Folds.{list_any-append}
use Rattle.std.proofs.lemmas.Option.{none-some, same_Some}
use Rattle.inode_events.specs.NewestFirst.{newest_first}
use Rattle.inode_events.specs.declared.told.Event.{Event}
use Rattle.inode_events.specs.templates.declared.entry.Entry.{Entry}
use Rattle.order_outcomes.proofs.alike.InodeTold.{listed_places, shown_in}
use Rattle.order_outcomes.specs.Calls.{is_listed, shows, shows_at}
use Rattle.order_told.specs.Told.{AreEntriesSame, IsThere}

-- two tests that imply each other are equal
both_ways : (s t : Bool) → (s ≡ true → t ≡ true) → (t ≡ true → s ≡ true) → s ≡ t
both_ways true t f g = sym (f refl)
both_ways false true f g = g refl
both_ways false false f g = refl

-- what holds of all elements holds of each
pub all_at : {X : Type 0} (P : X → Type 0) (xs : List X) → All P xs → (k : ℕ) (x : X)
    → slice_get xs k ≡ Some x → P x
all_at P [] all k x at = absurd (none-some x at)
all_at P (y ∷ ys) all zero x at = subst P (same_Some y x at) (All-head P y ys all)
all_at P (y ∷ ys) all (suc k) x at = all_at P ys (All-tail P y ys all) k x at

-- ---- places in any order

-- the list shows the bytes at a place
abbrev shows_place : List Entry → List ℕ → ℕ → Bool
shows_place list bytes place = shows_at list bytes (Some place)

-- the newest place is compared last
shown_any : (list : List Entry) (bytes places : List ℕ)
    → shown_in list bytes (reverse places) ≡ list_any (shows_place list bytes) places
shown_any list bytes places = first (reverse places) ∙ turned places
  where
    swap : (a b : Bool) → (a || b) ≡ (b || a)
    swap true true = refl
    swap true false = refl
    swap false true = refl
    swap false false = refl

    first : (xs : List ℕ) → shown_in list bytes xs ≡ list_any (shows_place list bytes) xs
    first [] = refl
    first (x ∷ xs) =
        ap (λ (b : Bool). b || shows_place list bytes x) (first xs)
        ∙ swap (list_any (shows_place list bytes) xs) (shows_place list bytes x)

    turned : (xs : List ℕ) → list_any (shows_place list bytes) (reverse xs)
        ≡ list_any (shows_place list bytes) xs
    turned [] = refl
    turned (x ∷ xs) =
        ap (list_any (shows_place list bytes)) (reverse-append (x ∷ []) xs)
        ∙ list_any-append (shows_place list bytes) (reverse xs) (x ∷ [])
        ∙ ap (λ (b : Bool). b || (shows_place list bytes x || false)) (turned xs)
        ∙ ap (λ (b : Bool). list_any (shows_place list bytes) xs || b)
        (or-false (shows_place list bytes x))
        ∙ swap (list_any (shows_place list bytes) xs) (shows_place list bytes x)

-- ---- the same entries

-- an entry that shows the bytes is at one of the places
found_at : (list : List Entry) (bytes places : List ℕ) (e : Entry) (k place : ℕ)
    → slice_get places k ≡ Some place → slice_get list place ≡ Some e
    → shows bytes (Some e) ≡ true → list_any (shows_place list bytes) places ≡ true
found_at list bytes [] e k place at there h = absurd (none-some place at)
found_at list bytes (x ∷ xs) e zero place at there h =
    or_left (shows_place list bytes x) (list_any (shows_place list bytes) xs)
    (ap (shows_place list bytes) (same_Some x place at) ∙ ap (shows bytes) there ∙ h)
found_at list bytes (x ∷ xs) e (suc k) place at there h =
    or_right (shows_place list bytes x) (list_any (shows_place list bytes) xs)
    (found_at list bytes xs e k place at there h)

-- so it does at one of the other places
shown_there : (list list2 : List Entry) (bytes places places2 : List ℕ)
    → All (IsThere list2 places2 list) places
    → list_any (shows_place list bytes) places ≡ true
    → list_any (shows_place list2 bytes) places2 ≡ true
shown_there list list2 bytes [] places2 all h = absurd (true≢false (sym h))
shown_there list list2 bytes (x ∷ xs) places2 all h =
    ⊎_elim (λ here. at (slice_get list x) refl here)
    (λ more. shown_there list list2 bytes xs places2
    (All-tail (IsThere list2 places2 list) x xs all) more)
    (or_cases (shows_place list bytes x) (list_any (shows_place list bytes) xs) h)
  where
    at : (o : Option Entry) → slice_get list x ≡ o → shows bytes (slice_get list x) ≡ true
        → list_any (shows_place list2 bytes) places2 ≡ true
    at None is shown = absurd (true≢false (sym shown ∙ ap (shows bytes) is))
    at (Some e) is shown =
        let there = All-head (IsThere list2 places2 list) x xs all e is in
        found_at list2 bytes places2 e there.0 there.1.0 there.1.1.0 there.1.1.1
        (ap (shows bytes) (sym is) ∙ shown)

-- journals whose grants report the same entries have shown the same bytes
pub shown_same : (list list2 : List Entry) (j j2 : List Event) → AreEntriesSame list list2 j j2
    → (bytes : List ℕ)
    → is_listed list2 bytes (newest_first j2) ≡ is_listed list bytes (newest_first j)
shown_same list list2 j j2 h bytes =
    listed_places list2 bytes (newest_first j2)
    ∙ ap (shown_in list2 bytes) (sym h.told2) ∙ shown_any list2 bytes h.places2
    ∙ both_ways (list_any (shows_place list2 bytes) h.places2)
    (list_any (shows_place list bytes) h.places)
    (shown_there list2 list bytes h.places2 h.places h.back)
    (shown_there list list2 bytes h.places h.places2 h.there)
    ∙ sym (listed_places list bytes (newest_first j) ∙ ap (shown_in list bytes) (sym h.told)
    ∙ shown_any list bytes h.places)
