-- The invariants of the fields of a book.
use Rattle.std.specs.Prelude.{◌≡◌, ℕ, ◌-◌, ◌/◌, min, length, map, All, [], ◌∷◌, Some, slice_get}
use Rattle.grow_list.specs.Shown.{Grown, Passed}
use Rattle.ima_templates.specs.IsEntry.{IsEntry}
use Rattle.measure_book.specs.Replay.{banks_of}
use Rattle.ima_templates.specs.Same.{IsDistinct}
use Rattle.ima_templates.specs.declared.entry.Entry.{Entry}
use Rattle.measure_book.specs.Key.{key_of}
use Rattle.measure_book.specs.Places.{PlacesValue}
use Rattle.measure_book.specs.declared.book.Book.TheInside.{Inside}

-- the number of further entries that the table has room for
abbrev pub places_spare : PlacesValue → ℕ
places_spare t = t.buckets / 2 - length t.keys

abbrev pub book_of : Inside → Grown Entry
book_of b = record {
  name = b.list.name;
  callers = b.list.callers;
  spare = min b.list.spare (places_spare b.places);
  list = b.list.list;
  numbers = b.list.numbers;
}

-- the book's own pass has added the first entry, and no other
pub record HasBooted (list : Grown Entry) (own : Passed Entry) : Type 0 where
  pub name : own.name ≡ list.name
  pub number : own.number ≡ 0
  pub boot : Entry
  pub first : slice_get list.list 0 ≡ Some boot
  pub mine : own.mine ≡ (0, boot) ∷ []

pub record IsBook (b : Inside) : Type 0 where
  pub banks : b.banks ≡ banks_of b.list.list
  pub keys : b.places.keys ≡ map key_of b.list.list
  pub own : HasBooted b.list b.own
  pub entries : All IsEntry b.list.list
  pub distinct : IsDistinct b.list.list
