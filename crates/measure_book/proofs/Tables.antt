-- The table with one more key.
use Rattle.std.proofs.Common.{◌≡◌, ℕ, suc, ◌+◌, ◌*◌, ◌/◌, ◌%◌, ◌<◌, ◌≤◌, ◌==◌, Bool, true, false, cond, List, [], ◌∷◌, ◌++◌, length, get_or, Option, None, Some, refl, ap, subst, sym, ◌∙◌, arith, ◌⊎◌, inl, inr, add-one, length-set, get_or-set_same, get_or-set_other, eqb-true}
use Rattle.std.proofs.lemmas.Bool.{cases_lt, eqb-false}
use Rattle.std.proofs.lemmas.List.{get_or_append_left, get_or_push, length_push}
use Rattle.std.proofs.Math.Nat.{mod-lt}
use Rattle.std.specs.Int.{IsPowerOfTwo}
use Rattle.std.specs.Vec.{vec_capacity}
use Rattle.measure_book.specs.Places.{IsEarlier, IsNewest, displaced, falls_into, in_bucket, last_below, linked}
use Rattle.measure_book.specs.PlacesFields.{IsTable}
use Rattle.measure_book.specs.declared.places.Places.TheInside.{Inside}
use Rattle.measure_book.proofs.Below.{last_below-same}

-- appending a key doesn't change the buckets of the earlier keys
in_bucket-push : (buckets : ℕ) (keys : List (Option ℕ)) (key : Option ℕ) (bucket place : ℕ)
    → place < length keys
    → in_bucket buckets (keys ++ key ∷ []) bucket place ≡ in_bucket buckets keys bucket place
in_bucket-push buckets keys key bucket place below =
    ap (falls_into buckets bucket) (get_or_append_left keys (key ∷ []) None place below)

-- the bucket of the appended key is the one that it falls into
in_bucket-last : (buckets : ℕ) (keys : List (Option ℕ)) (key : Option ℕ) (bucket : ℕ)
    → in_bucket buckets (keys ++ key ∷ []) bucket (length keys) ≡ falls_into buckets bucket key
in_bucket-last buckets keys key bucket =
    ap (falls_into buckets bucket) (get_or_push keys key None (length keys) refl)

-- appending a key doesn't change the last index found below it
last_below-push : (buckets : ℕ) (keys : List (Option ℕ)) (key : Option ℕ) (bucket end : ℕ)
    → end ≤ length keys
    → last_below (in_bucket buckets (keys ++ key ∷ []) bucket) end
    ≡ last_below (in_bucket buckets keys bucket) end
last_below-push buckets keys key bucket end within =
    last_below-same (in_bucket buckets (keys ++ key ∷ []) bucket) (in_bucket buckets keys bucket)
    end
    (λ i below. in_bucket-push buckets keys key bucket i (omega arith))

-- a link changes only the bucket of its key
linked-at : (newest : List (Option ℕ)) (key : Option ℕ) (place bucket : ℕ) → bucket < length newest
    → get_or (linked newest key place) bucket None
    ≡ cond (falls_into (length newest) bucket key) (Some place) (get_or newest bucket None)
linked-at newest None place bucket below = refl
linked-at newest (Some key) place bucket below = at ((key % length newest) == bucket) refl where
  at : (b : Bool) → ((key % length newest) == bucket) ≡ b
      → get_or (linked newest (Some key) place) bucket None
      ≡ cond b (Some place) (get_or newest bucket None)
  at true is =
      let same : key % length newest ≡ bucket = eqb-true (key % length newest) bucket is in
      subst (λ (n : ℕ). get_or (linked newest (Some key) place) n None ≡ Some place) same
      (get_or-set_same newest (key % length newest) (Some place) None
      (subst (λ (n : ℕ). n < length newest) (sym same) below))
  at false is =
      get_or-set_other newest (key % length newest) bucket (Some place) None
      (λ e. eqb-false (key % length newest) bucket is (sym e))

-- a link doesn't change the number of buckets
pub length-linked : (newest : List (Option ℕ)) (key : Option ℕ) (place : ℕ)
    → length (linked newest key place) ≡ length newest
length-linked newest None place = refl
length-linked newest (Some key) place = length-set newest (key % length newest) (Some place)

-- `newest` has the last index in each bucket, after one more key
newest-push : (newest keys : List (Option ℕ)) (key : Option ℕ) → IsNewest newest keys
    → IsNewest (linked newest key (length keys)) (keys ++ key ∷ [])
newest-push newest keys key kept bucket below =
    let count : length (keys ++ key ∷ [])
    ≡ suc (length keys) = length_push keys key ∙ add-one (length keys) in
    let buckets : length (linked newest key (length keys))
    ≡ length newest = length-linked newest key (length keys) in
    let within : bucket < length newest = omega (arith, buckets, below) in
    linked-at newest key (length keys) bucket within
    ∙ ap (λ (o : Option ℕ). cond (falls_into (length newest) bucket key) (Some (length keys)) o)
    (kept bucket within ∙ sym (last_below-push (length newest) keys key bucket (length keys)
    (omega arith)))
    ∙ ap (λ (b : Bool). cond b (Some (length keys))
    (last_below (in_bucket (length newest) (keys ++ key ∷ []) bucket) (length keys)))
    (sym (in_bucket-last (length newest) keys key bucket))
    ∙ λ i. last_below (in_bucket (sym buckets i) (keys ++ key ∷ []) bucket) (sym count i)

-- `earlier` has, for each entry with a key, the last index before it in its bucket, after one more
-- key
earlier-push : (newest keys earlier : List (Option ℕ)) (key : Option ℕ) → 0 < length newest
    → length earlier ≡ length keys
    → IsNewest newest keys → IsEarlier (length newest) keys earlier
    → IsEarlier (length newest) (keys ++ key ∷ []) (earlier ++ displaced newest key ∷ [])
earlier-push newest keys earlier key some even last kept place k within is =
    at (cases_lt place (length keys)) where
      at : (place < length keys) ⊎ (length keys ≤ place)
          → get_or (earlier ++ displaced newest key ∷ []) place None
          ≡ last_below (in_bucket (length newest) (keys ++ key ∷ []) (k % length newest)) place
      at (inl below) =
          get_or_append_left earlier (displaced newest key ∷ []) None place (omega (arith, even))
          ∙ kept place k below (sym (get_or_append_left keys (key ∷ []) None place below) ∙ is)
          ∙ sym (last_below-push (length newest) keys key (k % length newest) place (omega arith))
      at (inr least) =
          let end : length keys ≡ place = omega (arith, length_push keys key) in
          let key_is : key ≡ Some k = sym (get_or_push keys key None place end) ∙ is in
          get_or_push earlier (displaced newest key) None place (even ∙ end)
          ∙ ap (displaced newest) key_is
          ∙ last (k % length newest) (mod-lt k some)
          ∙ ap (last_below (in_bucket (length newest) keys (k % length newest))) end
          ∙ sym (last_below-push (length newest) keys key (k % length newest) place
          (omega (arith, end)))

-- the invariant of the table, after one more key
pub IsTable-push : (t u : Inside) (key : Option ℕ) → IsTable t
    → 2 * length t.keys.items + 2 ≤ length t.newest.items
    → u.newest.items ≡ linked t.newest.items key (length t.keys.items)
    → u.keys.items ≡ t.keys.items ++ key ∷ []
    → u.earlier.items ≡ t.earlier.items ++ displaced t.newest.items key ∷ []
    → vec_capacity u.keys ≡ vec_capacity t.keys → vec_capacity u.earlier ≡ vec_capacity t.earlier
    → IsTable u
IsTable-push t u key kept room newest keys earlier capacity capacity_earlier = record {
  power = subst IsPowerOfTwo (sym buckets) kept.power;
  not_one = omega (arith, buckets, kept.not_one);
  half = omega (arith, buckets, count, room);
  room = subst (λ (n : ℕ). n / 2 ≤ vec_capacity u.keys) (sym buckets)
      (omega (arith, capacity, kept.room));
  room_earlier = subst (λ (n : ℕ). n / 2 ≤ vec_capacity u.earlier) (sym buckets)
      (omega (arith, capacity_earlier, kept.room_earlier));
  even = ap length earlier ∙ length_push t.earlier.items _ ∙ ap (λ n. n + 1) kept.even ∙ sym count;
  newest = subst (IsNewest u.newest.items) (sym keys)
      (subst (λ (l : List (Option ℕ)). IsNewest l (t.keys.items ++ key ∷ [])) (sym newest)
      (newest-push t.newest.items t.keys.items key kept.newest));
  earlier = subst (λ (n : ℕ). IsEarlier n u.keys.items u.earlier.items) (sym buckets)
      (subst (λ (l : List (Option ℕ)). IsEarlier (length t.newest.items) l u.earlier.items)
      (sym keys)
      (subst (λ (l : List (Option ℕ)). IsEarlier (length t.newest.items) (t.keys.items ++ key ∷ [])
      l) (sym earlier)
      (earlier-push t.newest.items t.keys.items t.earlier.items key (omega (arith, kept.not_one))
      kept.even kept.newest kept.earlier)));
}
  where
    buckets : length u.newest.items ≡ length t.newest.items
    buckets = ap length newest ∙ length-linked t.newest.items key (length t.keys.items)

    count : length u.keys.items ≡ length t.keys.items + 1
    count = ap length keys ∙ length_push t.keys.items key

-- the link at an index leads to the previous index in the bucket, for each key that falls into it
pub IsTable-before : (t : Inside) (key place : ℕ) → IsTable t → place < length t.keys.items
    → in_bucket (length t.newest.items) t.keys.items (key % length t.newest.items) place ≡ true
    → get_or t.earlier.items place None
    ≡ last_below (in_bucket (length t.newest.items) t.keys.items (key % length t.newest.items))
    place
IsTable-before t key place kept within is = at (get_or t.keys.items place None) refl is where
  at : (o : Option ℕ) → get_or t.keys.items place None ≡ o
      → falls_into (length t.newest.items) (key % length t.newest.items) o ≡ true
      → get_or t.earlier.items place None
      ≡ last_below (in_bucket (length t.newest.items) t.keys.items
      (key % length t.newest.items)) place
  at None stands meets = absurd (cc)
  at (Some k) stands meets =
      kept.earlier place k within stands
      ∙ ap (λ (b : ℕ). last_below (in_bucket (length t.newest.items) t.keys.items b) place)
      (eqb-true _ _ meets)
