-- What is seen of a file by walking along the journal of its inode.
use Rattle.std.specs.Prelude.{◌≡◌, ℕ, ◌==◌, Bool, true, false, List, Option, Some, None}
use Rattle.inode_events.specs.Checks.{Check, last_check}
use Rattle.inode_events.specs.Files.{held}
use Rattle.inode_events.specs.declared.deed.How.{How}
use Rattle.inode_events.specs.declared.told.Event.{Event}
use Rattle.order_sights.specs.declared.files.FileSeen.{FileSeen}

-- the event drops the file
abbrev pub drops : ℕ → Option ℕ → Bool
drops file None = false
drops file (Some other) = other == file

-- how a file is held after an event that may count it; `here` says whether it is at its place
abbrev pub counted_as : Bool → Option How → Option How → Option How
counted_as true (Some how) old = Some how
counted_as _ _ old = old

abbrev pub check_in : FileSeen → Check
check_in seen = record { func = seen.func; action = seen.action }

-- it is what these events say of the file
pub record IsSeen (file : ℕ) (p : List Event) (seen : FileSeen) : Type 0 where
  pub how : seen.how ≡ held file p
  pub check : check_in seen ≡ last_check file p
