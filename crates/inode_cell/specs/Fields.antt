-- The invariant of a cell's fields.
use Rattle.std.specs.Prelude.{◌≡◌, ◌≤◌, ℕ, List, length}
use Rattle.inode_events.specs.Inode.{Inode}
use Rattle.inode_events.specs.Integrity.{attributes}
use Rattle.inode_events.specs.Listing.{Listed}
use Rattle.inode_events.specs.NewestFirst.{newest_first}
use Rattle.inode_events.specs.State.{content}
use Rattle.inode_events.specs.declared.told.Event.{Event}
use Rattle.ima_templates.specs.Path.{IsMeasuredPath}
use Rattle.ima_templates.specs.declared.entry.Entry.{Entry}
use Rattle.inode_pages.specs.Content.{most_bytes}
use Rattle.inode_meta.specs.declared.measurement.Template.TheVariants.{Ima}
use Rattle.xattr_store.specs.Attrs.{Pair}
use Rattle.inode_state.specs.laws_of_journals.Booked.{IsBooked}
use Rattle.inode_cell.specs.Value.{CellValue}
use Rattle.inode_cell.specs.declared.cell.InodeCell.TheInside.{Inside}

abbrev pub value_of : Inside → CellValue
value_of c = record {
  inode = c.kept.inode;
  journal = c.kept.name;
  callers = c.kept.callers;
  book = c.book.name;
  booked = c.book.number;
  spare = c.kept.spare;
  list = c.kept.list;
}

pub record Holds (inode : Inode) (events : List Event) (bytes : List ℕ) (attrs : List Pair) (seen :
    List Entry) (mine : List Listed) : Type 0 where
  -- every template can show the path
  pub path : IsMeasuredPath Ima inode.path
  -- the image fits the largest file
  pub small : length inode.birth.content ≤ most_bytes
  -- content and attributes are those that the journal defines
  pub content : bytes ≡ content events
  pub attributes : attrs ≡ attributes inode events
  -- the cell's pass of the measurement list agrees with the journal
  pub booked : IsBooked inode events seen mine

abbrev pub IsCell : Inside → Type 0
IsCell c = Holds c.kept.inode (newest_first c.kept.list) c.content c.attrs c.book.seen c.book.mine
