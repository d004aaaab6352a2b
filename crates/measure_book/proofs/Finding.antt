-- The walk through a bucket finds the first entry that is the same.
use Rattle.std.proofs.Common.{◌≡◌, ℕ, zero, suc, ◌+◌, ◌%◌, ◌<◌, ◌≤◌, Bool, true, false, not, cond, List, [], ◌∷◌, ◌++◌, length, map, get_or, Option, None, Some, refl, ap, sym, ◌∙◌, arith, ◌⊎◌, inl, inr, eq-eqb, lt-ltb, le-ltb}
use Rattle.std.proofs.lemmas.Bool.{cases_lt, cases_Bool}
use Rattle.std.proofs.lemmas.List.{get_or_append_left, get_or_push, length_push}
use Rattle.std.proofs.lemmas.Option.{get_or_from_slice_get, slice_get-get_or, slice_get-map, slice_get_within}
use Rattle.std.specs.List.{position, position_or_len}
use Rattle.std.specs.Option.{option_map, option_map_or}
use Rattle.std.specs.Prelude.{slice_get}
use Rattle.hash_algos.specs.Hash.{hash}
use Rattle.hash_algos.specs.declared.algo.Algo.TheVariants.{Sha256}
use Rattle.byteorder.specs.Endian.{big_number}
use Rattle.ima_templates.specs.Data.{template_data}
use Rattle.ima_templates.specs.Same.{IsDistinct, place_of_same, same}
use Rattle.ima_templates.specs.declared.entry.Entry.{Entry}
use Rattle.ima_templates.proofs.SameLemmas.{Shares-same, same-third}
use Rattle.measure_book.specs.Key.{key_of, stands_at}
use Rattle.measure_book.specs.Places.{PlacesValue, falls_into, last_below, meets}
use Rattle.measure_book.proofs.Below.{last_below-found, last_below-none}

-- ---- the first index that passes a test

module _ {X : Type 0} (test : X → Bool) where
  -- the element at the index passes
  abbrev passes : List X → ℕ → Bool
  passes xs place = option_map_or test (slice_get xs place) false

  -- an index that passes is the first, if all smaller ones fail
  position_or_len-first : (xs : List X) (place : ℕ) → place < length xs → passes xs place ≡ true
      → ((k : ℕ) → k < place → passes xs k ≡ false) → position_or_len test xs ≡ place
  position_or_len-first [] place within is before = absurd (omega arith)
  position_or_len-first (x ∷ xs) zero within is before =
      ap (λ (b : Bool). cond (not b) (1 + position_or_len test xs) 0) is
  position_or_len-first (x ∷ xs) (suc place) within is before =
      let rest = position_or_len-first xs place (omega arith) is
      (λ k below. before (suc k) (omega arith)) in
      ap (λ (b : Bool). cond (not b) (1 + position_or_len test xs) 0) (before 0 (omega arith))
      ∙ omega (arith, rest)

  -- the result is the length, if all indices fail
  position_or_len-none : (xs : List X) → ((k : ℕ) → k < length xs → passes xs k ≡ false)
      → position_or_len test xs ≡ length xs
  position_or_len-none [] each = refl
  position_or_len-none (x ∷ xs) each =
      let rest = position_or_len-none xs (λ k below. each (suc k) (omega arith)) in
      ap (λ (b : Bool). cond (not b) (1 + position_or_len test xs) 0) (each 0 (omega arith))
      ∙ omega (arith, rest)

  -- an index that passes is the first, as an option, if all smaller ones fail
  pub position-first : (xs : List X) (place : ℕ) → place < length xs → passes xs place ≡ true
      → ((k : ℕ) → k < place → passes xs k ≡ false) → position test xs ≡ Some place
  position-first xs place within is before =
      let at = position_or_len-first xs place within is before in
      ap (λ (b : Bool). cond b (Some (position_or_len test xs)) None)
      (lt-ltb (position_or_len test xs) (length xs) (omega (arith, at, within)))
      ∙ ap Some at

  -- the result is `None`, if all indices fail
  pub position-none : (xs : List X) → ((k : ℕ) → k < length xs → passes xs k ≡ false)
      → position test xs ≡ None
  position-none xs each =
      ap (λ (b : Bool). cond b (Some (position_or_len test xs)) None)
      (le-ltb (position_or_len test xs) (length xs) (omega (arith, position_or_len-none xs each)))

-- ---- among entries that are distinct, at most one is the same as a given entry

-- the entry at the index, which is the same as e
stands-get : (list : List Entry) (e : Entry) (place : ℕ) → stands_at list e place ≡ true
    → (x : Entry) × (slice_get list place ≡ Some x) × (same x e ≡ true)
stands-get list e place is = at (slice_get list place) refl is where
  at : (o : Option Entry) → slice_get list place ≡ o → option_map_or (λ x. same x e) o false ≡ true
      → (x : Entry) × (slice_get list place ≡ Some x) × (same x e ≡ true)
  at None none is = absurd (cc)
  at (Some x) some is = (x, some, is)

-- no entry before one that is the same as e is the same as e
only-one : (list : List Entry) (e : Entry) (k place : ℕ) → IsDistinct list → k < place
    → stands_at list e place ≡ true
    → stands_at list e k ≡ false
only-one list e k place distinct before is = at (cases_Bool (stands_at list e k)) where
  at : (stands_at list e k ≡ true) ⊎ (stands_at list e k ≡ false) → stands_at list e k ≡ false
  at (inl earlier) =
      let one = stands-get list e k earlier in
      let other = stands-get list e place is in
      let both : same one.0 other.0 ≡ true = same-third one.0 other.0 e one.2 other.2 in
      let not_both : same one.0 other.0
      ≡ false = distinct k place one.0 other.0 before one.1 other.1 in
      absurd (cc)
  at (inr none) = none

-- the last index with an entry that is the same as e is also the first
pub place_of_same-last : (list : List Entry) (e : Entry) → IsDistinct list
    → last_below (stands_at list e) (length list) ≡ place_of_same list e
place_of_same-last list e distinct = at (last_below (stands_at list e) (length list)) refl where
  at : (o : Option ℕ) → last_below (stands_at list e) (length list) ≡ o → o ≡ place_of_same list e
  at None is =
      sym (position-none (λ x. same x e) list (λ k below. last_below-none (stands_at list e)
      (length list) k is below))
  at (Some place) is =
      let found = last_below-found (stands_at list e) (length list) place is in
      sym (position-first (λ x. same x e) list place found.below found.passes
      (λ k below. only-one list e k place distinct below found.passes))

-- no entry is the same as a violation
pub place_of_same-keyless : (list : List Entry) (e : Entry) → key_of e ≡ None
    → place_of_same list e ≡ None
unfolding key_of
place_of_same-keyless list e none =
    position-none (λ x. same x e) list (λ k below. at k (cases_Bool (stands_at list e k)))
  where
    at : (k : ℕ) → (stands_at list e k ≡ true) ⊎ (stands_at list e k ≡ false)
        → stands_at list e k ≡ false
    at k (inl stands) =
        let there = stands-get list e k stands in
        let has_key : Some (big_number 8 (hash Sha256 (template_data e))) ≡ None =
        (λ i. cond (sym (Shares-same there.0 e there.2).no_violation_either i) None
        (Some (big_number 8 (hash Sha256 (template_data e))))) ∙ none in
        absurd (cc)
    at k (inr fails) = fails

-- ---- the walk

-- the result of a walk that has come to this candidate
abbrev pub last_through : (ℕ → Bool) → Option ℕ → Option ℕ
last_through test None = None
last_through test (Some place) = last_below test (suc place)

-- a walk through the indices of a bucket misses none that passes, if all those that pass are in the
-- bucket
pub last_through-bucket : (test bucket : ℕ → Bool) (end : ℕ)
    → ((i : ℕ) → test i ≡ true → bucket i ≡ true)
    → last_through test (last_below bucket end) ≡ last_below test end
last_through-bucket test bucket zero within = refl
last_through-bucket test bucket (suc end) within =
    at (last_through-bucket test bucket end within) (bucket end) refl (cases_Bool (test end))
  where
    at : last_through test (last_below bucket end) ≡ last_below test end → (b : Bool)
        → bucket end ≡ b → (test end ≡ true) ⊎ (test end ≡ false)
        → last_through test (cond b (Some end) (last_below bucket end)) ≡ last_below test (suc end)
    at rest true is either = refl
    at rest false is (inl passes) = let in_it = within end passes in absurd (cc)
    at rest false is (inr fails) = rest
        ∙ ap (λ (b : Bool). cond b (Some end) (last_below test end)) (sym fails)

-- entries that are the same have the same key
key_of-same : (x e : Entry) → same x e ≡ true → key_of x ≡ key_of e
unfolding key_of
key_of-same x e is =
    let shares = Shares-same x e is in
    (λ i. cond (shares.no_violation i) None (Some (big_number 8 (hash Sha256 (template_data x)))))
    ∙ ap (λ (m : List ℕ). Some (big_number 8 (hash Sha256 m))) shares.one_data
    ∙ (λ i. cond (sym shares.no_violation_either i) None
    (Some (big_number 8 (hash Sha256 (template_data e)))))

-- the index of the candidate is in the list and in the bucket
abbrev pub IsCandidate : PlacesValue → ℕ → Option ℕ → Type 0
IsCandidate places key None = Unit {0}
IsCandidate places key (Some place) = (place < length places.keys) × (meets places key place ≡ true)

-- each index that a walk goes to is a candidate
pub IsCandidate-last_below : (places : PlacesValue) (key end : ℕ) → end ≤ length places.keys
    → IsCandidate places key (last_below (meets places key) end)
IsCandidate-last_below places key end within = at (last_below (meets places key) end) refl where
  at : (o : Option ℕ) → last_below (meets places key) end ≡ o → IsCandidate places key o
  at None is = tt
  at (Some place) is =
      let found = last_below-found (meets places key) end place is in
      (omega (arith, found.below), found.passes)

-- if the table has the keys of the list, an entry that is the same as e is in the bucket of e's key
pub stands-meets : (places : PlacesValue) (list : List Entry) (e : Entry) (key : ℕ)
    → places.keys ≡ map key_of list → key_of e ≡ Some key
    → (i : ℕ) → stands_at list e i ≡ true → meets places key i ≡ true
stands-meets places list e key keys is i stands =
    let earlier = stands-get list e i stands in
    let got : slice_get (map key_of list) i ≡ Some (Some key) =
    slice_get-map key_of list i ∙ ap (option_map key_of) earlier.1
    ∙ ap Some (key_of-same earlier.0 e earlier.2 ∙ is) in
    let there : get_or places.keys i None ≡ Some key =
    ap (λ (l : List (Option ℕ)). get_or l i None) keys
    ∙ get_or_from_slice_get (map key_of list) i (Some key) None got in
    ap (falls_into places.buckets (key % places.buckets)) there
    ∙ eq-eqb (key % places.buckets) (key % places.buckets) refl

-- one step of the walk doesn't change its result
pub last_through-step : (places : PlacesValue) (list : List Entry) (e : Entry) (key place : ℕ)
    → places.keys ≡ map key_of list
    → key_of e ≡ Some key → stands_at list e place ≡ false
    → last_through (stands_at list e) (last_below (meets places key) place)
    ≡ last_through (stands_at list e) (Some place)
last_through-step places list e key place keys is fails =
    last_through-bucket (stands_at list e) (meets places key) place
    (stands-meets places list e key keys is)
    ∙ ap (λ (b : Bool). cond b (Some place) (last_below (stands_at list e) place)) (sym fails)

-- a bound on the indices that the walk has still to visit
abbrev pub steps_left : Option ℕ → ℕ
steps_left None = 0
steps_left (Some place) = suc place

-- each step of a walk goes to a smaller index
pub steps_left-last_below : (test : ℕ → Bool) (end : ℕ) → steps_left (last_below test end) < suc end
steps_left-last_below test end = at (last_below test end) refl where
  at : (o : Option ℕ) → last_below test end ≡ o → steps_left o < suc end
  at None is = omega arith
  at (Some place) is = let found = last_below-found test end place is in omega (arith, found.below)

-- ---- the result of the walk

-- a candidate that is the same as e is the first such entry
pub walk_found : (list : List Entry) (e : Entry) (place : ℕ) → IsDistinct list
    → last_through (stands_at list e) (Some place) ≡ last_below (stands_at list e) (length list)
    → stands_at list e place ≡ true
    → Some place ≡ place_of_same list e
walk_found list e place distinct walk is =
    ap (λ (b : Bool). cond b (Some place) (last_below (stands_at list e) place)) (sym is) ∙ walk
    ∙ place_of_same-last list e distinct

-- ---- the list with one more entry

-- the list stays distinct when an entry is appended that isn't the same as any other
pub IsDistinct-push : (list : List Entry) (e : Entry) → IsDistinct list
    → place_of_same list e ≡ None → IsDistinct (list ++ e ∷ [])
IsDistinct-push list e distinct none a b x y before at_a at_b = at (cases_lt b (length list)) where
  within : b < length (list ++ e ∷ [])
  within = slice_get_within (list ++ e ∷ []) b y at_b

  earlier : (k : ℕ) (z : Entry) → k < length list → slice_get (list ++ e ∷ []) k ≡ Some z
      → slice_get list k ≡ Some z
  earlier k z below is =
      slice_get-get_or list k z below
      ∙ ap Some (sym (get_or_append_left list (e ∷ []) z k below)
      ∙ get_or_from_slice_get (list ++ e ∷ []) k z z is)

  at : (b < length list) ⊎ (length list ≤ b) → same x y ≡ false
  at (inl below) = distinct a b x y before (earlier a x (omega arith) at_a) (earlier b y below at_b)
  at (inr least) =
      let count : length (list ++ e ∷ []) ≡ length list + 1 = length_push list e in
      let a_below : a < length list = omega (arith, count, within, before) in
      let is : y ≡ e =
      sym (get_or_from_slice_get (list ++ e ∷ []) b y y at_b)
      ∙ get_or_push list e y b (omega (arith, count, within, least)) in
      let fails : stands_at list e a ≡ false =
      last_below-none (stands_at list e) (length list) a (place_of_same-last list e distinct ∙ none)
      a_below in
      ap (λ (z : Entry). same x z) is
      ∙ ap (λ (o : Option Entry). option_map_or (λ z. same z e) o false)
      (sym (earlier a x a_below at_a)) ∙ fails
