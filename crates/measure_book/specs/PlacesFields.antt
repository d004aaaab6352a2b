-- The invariant of the fields of the table.
use Rattle.std.specs.Prelude.{◌≡◌, ◌*◌, ◌/◌, ◌≤◌, length}
use Rattle.std.specs.Int.{IsPowerOfTwo}
use Rattle.std.specs.Vec.{vec_capacity}
use Rattle.measure_book.specs.declared.places.Places.TheInside.{Inside}
use Rattle.measure_book.specs.Places.{IsEarlier, IsNewest, PlacesValue}

abbrev pub places_of : Inside → PlacesValue
places_of t = record { buckets = length t.newest.items; keys = t.keys.items }

pub record IsTable (t : Inside) : Type 0 where
  pub power : IsPowerOfTwo (length t.newest.items)
  pub not_one : 2 ≤ length t.newest.items
  -- there are at least twice as many buckets as entries, and memory for half as many entries as
  -- there are buckets
  pub half : 2 * length t.keys.items ≤ length t.newest.items
  pub room : length t.newest.items / 2 ≤ vec_capacity t.keys
  pub room_earlier : length t.newest.items / 2 ≤ vec_capacity t.earlier
  pub even : length t.earlier.items ≡ length t.keys.items
  pub newest : IsNewest t.newest.items t.keys.items
  pub earlier : IsEarlier (length t.newest.items) t.keys.items t.earlier.items
