-- The stages of the files of a journal.
use Rattle.std.specs.Prelude.{◌≡◌, ℕ, ◌==◌, Bool, true, false, List, [], ◌∷◌, length, Option, Some, None, if◌then◌else◌}
use Rattle.inode_events.specs.Files.{counted, held}
use Rattle.inode_events.specs.Stage.{Stage}
use Rattle.inode_events.specs.Stage.{CloseCollected, CloseCollecting, Collected, Collecting}
use Rattle.inode_events.specs.declared.deed.How.{How}
use Rattle.inode_events.specs.declared.told.Event.{Event}

-- the stage of a collection's file: whether the collection is for a close, and whether it has its
-- last piece
abbrev pub collecting_stage : Bool → Bool → Stage
collecting_stage false false = Collecting
collecting_stage false true = Collected
collecting_stage true false = CloseCollecting
collecting_stage true true = CloseCollected

-- the event at this place
abbrev pub event_at : ℕ → List Event → Option Event
event_at place [] = None
event_at place (e ∷ before) = if length before == place then Some e else event_at place before

-- the event at the file's place counted it, and the file is held in the way that the count says
pub record IsHeldAsCounted (file : ℕ) (events : List Event) : Type 0 where
  pub count : Event
  pub how : How
  pub stands : event_at file events ≡ Some count
  pub said : counted count.deed count.told ≡ Some how
  pub holds : held file events ≡ Some how
