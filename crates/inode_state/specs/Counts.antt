-- The numbers of open files by kind, compared with the journal's definition.
use Rattle.std.specs.Prelude.{◌≡◌, ℕ, Bool, List, Option, Some, None}
use Rattle.inode_events.specs.Files.{dropped, execs, held, is_exec, is_reader, is_writer, readers, writers}
use Rattle.inode_events.specs.declared.deed.How.{How}
use Rattle.inode_events.specs.declared.told.Event.{Event}
use Rattle.inode_state.specs.declared.counts.Counts.{Counts}
use Rattle.inode_state.specs.declared.counts.Kind.{Kind}
use Rattle.inode_state.specs.declared.counts.Kind.TheVariants as kind

pub record AreCounts (p : List Event) (c : Counts) : Type 0 where
  pub writers : c.writers ≡ writers p
  pub readers : c.readers ≡ readers p
  pub execs : c.execs ≡ execs p

-- how the file that the event drops was opened
abbrev pub how_of : Option ℕ → List Event → Option How
how_of None p = None
how_of (Some file) p = held file p

abbrev pub how_dropped : Event → List Event → Option How
how_dropped e p = how_of (dropped e.deed e.told) p

abbrev pub test_of : Kind → How → Bool
test_of kind.Writer how = is_writer how
test_of kind.Reader how = is_reader how
test_of kind.Exec how = is_exec how
