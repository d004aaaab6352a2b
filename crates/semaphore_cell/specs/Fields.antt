-- The invariant of a semaphore cell's fields.
use Rattle.std.specs.Prelude.{◌≡◌, ℕ, ◌<◌, [], map, All, get_or}
use Rattle.grow_list.specs.Shown.{Grown, Passed}
use Rattle.inode_events.specs.Callers.{caller_of}
use Rattle.inode_events.specs.NewestFirst.{newest_first}
use Rattle.inode_events.specs.Semaphores.{LegalSemaphores, left}
use Rattle.inode_events.specs.declared.told.Event.{Event}
use Rattle.semaphore_cell.specs.declared.cell.SemaphoreCell.TheInside.{Inside}

abbrev pub journal_of : Inside → Grown Event
journal_of c = c.journal

-- the cell's own pass has added nothing
pub record IsIdle (journal : Grown Event) (own : Passed Event) : Type 0 where
  pub name : own.name ≡ journal.name
  pub number : own.number ≡ 0
  pub mine : own.mine ≡ []

pub record IsSemaphores (c : Inside) : Type 0 where
  pub counts : (sem : ℕ) → sem < 256 → get_or c.left sem 0 ≡ left sem (newest_first c.journal.list)
  pub legal : LegalSemaphores (newest_first c.journal.list)
  pub numbers : c.journal.numbers ≡ map caller_of c.journal.list
  pub signed : All (λ e. (0 < caller_of e) × (caller_of e < c.journal.callers)) c.journal.list
  pub own : IsIdle c.journal c.own
