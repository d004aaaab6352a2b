-- The open files of an inode, by the events that were read. Lists of events are newest first, so
-- that the place of an event is the length of the rest.
use Rattle.std.specs.Prelude.{ℕ, ◌+◌, ◌==◌, Bool, true, false, List, [], ◌∷◌, length, reverse, take, Option, Some, None, if◌then◌else◌}
use Rattle.report_read.specs.words.declared.event.Deed.{Deed}
use Rattle.report_read.specs.words.declared.event.Deed.TheVariants as deed
use Rattle.report_read.specs.words.declared.event.Event.{Event}
use Rattle.report_read.specs.words.declared.event.Kind.{Kind}
use Rattle.report_read.specs.words.declared.event.Kind.TheVariants as kind
use Rattle.report_read.specs.words.declared.event.Outcome.{Outcome}
use Rattle.report_read.specs.words.declared.event.Outcome.TheVariants as outcome

-- the events of a journal up to this place, newest first
abbrev pub up_to : ℕ → List Event → List Event
up_to place journal = reverse (take (place + 1) journal)

-- ---- the kinds of files

abbrev pub is_reader : Kind → Bool
is_reader kind.Read = true
is_reader kind.Exec = true
is_reader _ = false

-- a file that is open for reading and writing counts as a writer alone
abbrev pub is_writer : Kind → Bool
is_writer kind.Write = true
is_writer kind.ReadWrite = true
is_writer _ = false

abbrev pub is_exec : Kind → Bool
is_exec kind.Exec = true
is_exec _ = false

-- ---- the open files

-- the event opens a file
abbrev pub opened : Deed → Outcome → Option Kind
opened (deed.Count k create) outcome.Held = Some k
opened _ _ = None

-- the event drops a file
abbrev pub dropped : Deed → Outcome → Option ℕ
dropped (deed.Close file) outcome.Dropped = Some file
dropped (deed.CloseTake file) outcome.Dropped = Some file
dropped (deed.CloseFinish file) outcome.Dropped = Some file
dropped (deed.CloseFinish file) outcome.LabelledDropped = Some file
dropped _ _ = None

abbrev pub with_file : ℕ → Option Kind → List (ℕ × Kind) → List (ℕ × Kind)
with_file place None held = held
with_file place (Some k) held = (place, k) ∷ held

abbrev pub less_file : ℕ → List (ℕ × Kind) → List (ℕ × Kind)
less_file file [] = []
less_file file (h ∷ hs) = if h.0 == file then hs else h ∷ less_file file hs

abbrev pub without_file : Option ℕ → List (ℕ × Kind) → List (ℕ × Kind)
without_file None held = held
without_file (Some file) held = less_file file held

-- the files that are open after these events, each with its kind
abbrev pub files : List Event → List (ℕ × Kind)
files [] = []
files (e ∷ before) =
    with_file (length before) (opened e.deed e.outcome)
    (without_file (dropped e.deed e.outcome) (files before))

abbrev pub find_file : ℕ → List (ℕ × Kind) → Option Kind
find_file file [] = None
find_file file (h ∷ hs) = if h.0 == file then Some h.1 else find_file file hs

-- ---- the counts

abbrev pub tally : (Kind → Bool) → List (ℕ × Kind) → ℕ
tally test [] = 0
tally test (h ∷ hs) = (if test h.1 then 1 else 0) + tally test hs

abbrev pub readers : List Event → ℕ
readers before = tally is_reader (files before)

abbrev pub writers : List Event → ℕ
writers before = tally is_writer (files before)

abbrev pub execs : List Event → ℕ
execs before = tally is_exec (files before)

-- the numbers that the strips show at a place
pub record Counts : Type 0 where
  pub readers : ℕ
  pub writers : ℕ
  pub execs : ℕ

abbrev pub counts_after : List Event → Counts
counts_after before = record {
  readers = readers before;
  writers = writers before;
  execs = execs before;
}

abbrev pub counts_at : ℕ → List Event → Counts
counts_at place journal = counts_after (up_to place journal)
