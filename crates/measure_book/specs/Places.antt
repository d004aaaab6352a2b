-- A hash table of list indices: it finds the entries of a list by their keys.
use Rattle.std.specs.Prelude.{◌≡◌, ℕ, zero, suc, ◌<◌, ◌==◌, ◌%◌, Bool, false, if◌then◌else◌, List, length, Option, None, Some, slice_index_or, slice_set}

-- the number of buckets, and the key of each entry. An entry without a key is never found.
pub record PlacesValue : Type 0 where
  pub buckets : ℕ
  pub keys : List (Option ℕ)

-- the greatest index below `end` that passes the test
abbrev pub last_below : (ℕ → Bool) → ℕ → Option ℕ
last_below test zero = None
last_below test (suc end) = if test end then Some end else last_below test end

-- the key falls into the bucket; an absent key falls into none
abbrev pub falls_into : ℕ → ℕ → Option ℕ → Bool
falls_into buckets bucket None = false
falls_into buckets bucket (Some key) = (key % buckets) == bucket

-- the key of the entry at this index falls into the bucket
abbrev pub in_bucket : ℕ → List (Option ℕ) → ℕ → ℕ → Bool
in_bucket buckets keys bucket place = falls_into buckets bucket (slice_index_or keys place None)

-- the key of the entry at this index falls into the same bucket as `key`
abbrev pub meets : PlacesValue → ℕ → ℕ → Bool
meets places key place = in_bucket places.buckets places.keys (key % places.buckets) place

-- the last index in each bucket, after an entry with this key is added at `place`
abbrev pub linked : List (Option ℕ) → Option ℕ → ℕ → List (Option ℕ)
linked newest None place = newest
linked newest (Some key) place = slice_set newest (key % length newest) (Some place)

-- the index that was the last in the bucket of this key, before an entry with the key is added
abbrev pub displaced : List (Option ℕ) → Option ℕ → Option ℕ
displaced newest None = None
displaced newest (Some key) = slice_index_or newest (key % length newest) None

-- `newest` has, for each bucket, the last index in it
abbrev pub IsNewest : List (Option ℕ) → List (Option ℕ) → Type 0
IsNewest newest keys = (bucket : ℕ) → bucket < length newest
    → slice_index_or newest bucket None
    ≡ last_below (in_bucket (length newest) keys bucket) (length keys)

-- `earlier` has, for each entry with a key, the last index before it in the same bucket
abbrev pub IsEarlier : ℕ → List (Option ℕ) → List (Option ℕ) → Type 0
IsEarlier buckets keys earlier = (place key : ℕ) → place < length keys
    → slice_index_or keys place None ≡ Some key
    → slice_index_or earlier place None ≡ last_below (in_bucket buckets keys (key % buckets)) place
