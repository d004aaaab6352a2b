-- The contract view of a cell.
use Rattle.std.specs.Prelude.{◌≡◌, ℕ, List}
use Rattle.grow_list.specs.Shown.{ListName}
use Rattle.inode_events.specs.Inode.{Inode}
use Rattle.inode_events.specs.declared.told.Event.{Event}

-- the inode, the name and the number of callers of its journal, the name of the measurement list
-- and the number of the cell's pass of it, the number of further events for which there is room,
-- and the events, oldest first
pub record CellValue : Type 0 where
  pub inode : Inode
  pub journal : ListName
  pub callers : ℕ
  pub book : ListName
  pub booked : ℕ
  pub spare : ℕ
  pub list : List Event

-- what never changes in a cell
pub record IsSameCell (old new : CellValue) : Type 0 where
  pub inode : new.inode ≡ old.inode
  pub journal : new.journal ≡ old.journal
  pub callers : new.callers ≡ old.callers
  pub book : new.book ≡ old.book
  pub booked : new.booked ≡ old.booked
