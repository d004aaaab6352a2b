-- A list is merged from the journals of several inodes, by equations that hold by computation.
use Rattle.std.proofs.Common.{◌≡◌, ℕ, ◌<◌, Bool, true, List, [], ◌∷◌, length, Some, subst, inl, inr}
use Rattle.std.specs.Prelude.{◌&&◌, ◌⊎◌, ◌==◌, if◌then◌else◌, All, Contains, slice_get, sum_by}
use Rattle.std.proofs.lemmas.Bool.{and_parts}
use Rattle.std.proofs.lemmas.List.Elements.{Contains-append_cases}
use Rattle.inode_events.proofs.Deciding.{AreApart, all_rise, distinct_by, has_none, one_has, rise_by}
use Rattle.inode_events.specs.Listing.{IsListed}
use Rattle.inode_events.specs.Merged.{IsMerged, Journal, Named, PlacesRise, is_earlier, places_added, places_named, times_added}
use Rattle.inode_events.specs.templates.declared.entry.Entry.{Entry}

-- ---- along the steps of tasks

-- an element of a list is its first one or an element of the rest
has_cases : {X : Type 0} (y x : X) (xs : List X) → Contains (y ∷ xs) x → (y ≡ x) ⊎ Contains xs x
has_cases {X} y x xs h = at (Contains-append_cases (y ∷ []) xs x h) where
  at : Contains (y ∷ []) x ⊎ Contains xs x → (y ≡ x) ⊎ Contains xs x
  at (inl a) = inl (one_has y x a)
  at (inr b) = inr b

-- the indices that the one journal reports are below those that a later step of the same task adds
-- in the other
abbrev pub rise_between : Journal → Journal → Bool
rise_between j k = all_rise (places_named j.inode j.events) (places_added k.inode k.events)

-- the same between the one journal and each of the others
abbrev pub rise_from : Journal → List Journal → Bool
rise_from j [] = true
rise_from j (k ∷ rest) = rise_between j k && rise_from j rest

-- the same between each of the one and each of the others
abbrev pub rise_among : List Journal → List Journal → Bool
rise_among [] ks = true
rise_among (j ∷ rest) ks = rise_from j ks && rise_among rest ks

-- the steps rise from the one journal to the other
abbrev Rise : Journal → Journal → Type 0
Rise j k = (earlier later : Named) → Contains (places_named j.inode j.events) earlier
    → Contains (places_added k.inode k.events) later
    → is_earlier earlier.0 later.0 ≡ true → earlier.1 < later.1

-- the steps rise from the one journal to any of the others, if the test passes
by_from : (j : Journal) (ks : List Journal) → rise_from j ks ≡ true → (k : Journal)
    → Contains ks k → Rise j k
by_from j [] r k c = absurd (has_none k c)
by_from j (x ∷ rest) r k c =
    let parts = and_parts (rise_between j x) (rise_from j rest) r in
    at (has_cases x k rest c) parts.0 (λ t. by_from j rest parts.1 k t) where
      at : (x ≡ k) ⊎ Contains rest k → rise_between j x ≡ true → (Contains rest k → Rise j k)
          → Rise j k
      at (inl same) now more =
          subst (λ (w : Journal). Rise j w) same
          (rise_by (places_named j.inode j.events) (places_added x.inode x.events) now)
      at (inr t) now more = more t

-- the steps rise from any of the one to any of the others, if the test passes
by_among : (js ks : List Journal) → rise_among js ks ≡ true → (j k : Journal) → Contains js j
    → Contains ks k → Rise j k
by_among [] ks r j k c d = absurd (has_none j c)
by_among (x ∷ rest) ks r j k c d =
    let parts = and_parts (rise_from x ks) (rise_among rest ks) r in
    at (has_cases x j rest c) parts.0 (λ t. by_among rest ks parts.1 j k t d) where
      at : (x ≡ j) ⊎ Contains rest j → rise_from x ks ≡ true → (Contains rest j → Rise j k)
          → Rise j k
      at (inl same) now more = subst (λ (w : Journal). Rise w k) same (by_from x ks now k d)
      at (inr t) now more = more t

-- ---- the list

-- the list is merged from these journals
pub merged_from : (boot : Entry) (list : List Entry) (journals : List Journal)
    → slice_get list 0 ≡ Some boot → All (λ j. IsListed j.inode list j.events) journals
    → ((place : ℕ) → place < length list
    → sum_by (λ j. times_added place (places_added j.inode j.events)) journals
    ≡ (if place == 0 then 0 else 1))
    → All (λ j. PlacesRise j.inode j.events) journals → rise_among journals journals ≡ true
    → AreApart list → IsMerged boot list journals
merged_from boot list journals first listed once along tasks apart = record {
  first = first;
  listed = listed;
  once = once;
  along_journals = along;
  along_tasks = λ j k earlier later cj ck ce cl e.
      by_among journals journals tasks j k cj ck earlier later ce cl e;
  distinct = distinct_by list apart;
}
