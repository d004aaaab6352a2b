-- The open files of an inode: those that were counted and haven't been dropped. A file is
-- identified by the index of its count in the journal.
use Rattle.std.specs.Prelude.{ℕ, ◌+◌, ◌==◌, Bool, true, false, List, [], ◌∷◌, length, Option, Some, None, if◌then◌else◌}
use Rattle.inode_events.specs.declared.deed.Deed.{Deed}
use Rattle.inode_events.specs.declared.deed.Deed.TheVariants as deed
use Rattle.inode_events.specs.declared.deed.How.{How}
use Rattle.inode_events.specs.declared.deed.How.TheVariants as how
use Rattle.inode_events.specs.declared.told.Event.{Event}
use Rattle.inode_events.specs.declared.told.Told.{Told}
use Rattle.inode_events.specs.declared.told.Told.TheVariants as told

-- ---- the counts that a file raises

-- a file that is open for writing counts as a writer, even if it may read too
abbrev pub is_writer : How → Bool
is_writer (how.Write read create) = true
is_writer _ = false

-- a file that is open for reading only counts as a reader, and so does an execution
abbrev pub is_reader : How → Bool
is_reader (how.Read create) = true
is_reader how.Exec = true
is_reader _ = false

abbrev pub is_exec : How → Bool
is_exec how.Exec = true
is_exec _ = false

-- the file can be read from
abbrev pub can_read : How → Bool
can_read (how.Write read create) = read
can_read _ = true

-- the open creates an absent file
abbrev pub creates : How → Bool
creates (how.Read create) = create
creates (how.Write read create) = create
creates how.Exec = false

-- ---- the open files

-- the event counts a file
abbrev pub counted : Deed → Told → Option How
counted (deed.Count how) told.Held = Some how
counted _ _ = None

-- the event drops a file
abbrev pub dropped : Deed → Told → Option ℕ
dropped (deed.Close file) told.Dropped = Some file
dropped (deed.CloseTake file) told.Dropped = Some file
dropped (deed.CloseFinish file) told.Dropped = Some file
dropped (deed.CloseFinish file) told.LabelledDropped = Some file
dropped _ _ = None

abbrev pub with_file : ℕ → Option How → List (ℕ × How) → List (ℕ × How)
with_file place None held = held
with_file place (Some how) held = (place, how) ∷ held

abbrev pub less_file : ℕ → List (ℕ × How) → List (ℕ × How)
less_file file [] = []
less_file file (h ∷ hs) = if h.0 == file then hs else h ∷ less_file file hs

abbrev pub without_file : Option ℕ → List (ℕ × How) → List (ℕ × How)
without_file None held = held
without_file (Some file) held = less_file file held

-- the open files, each with the way it was opened
abbrev pub files : List Event → List (ℕ × How)
files [] = []
files (e ∷ before) = with_file (length before) (counted e.deed e.told)
    (without_file (dropped e.deed e.told) (files before))

-- ---- facts about the open files

abbrev pub tally : (How → Bool) → List (ℕ × How) → ℕ
tally test [] = 0
tally test (h ∷ hs) = (if test h.1 then 1 else 0) + tally test hs

-- the numbers of writers, readers and executions of the inode (the kernel's `i_writecount` and
-- `i_readcount`)
abbrev pub writers : List Event → ℕ
writers before = tally is_writer (files before)

abbrev pub readers : List Event → ℕ
readers before = tally is_reader (files before)

abbrev pub execs : List Event → ℕ
execs before = tally is_exec (files before)

abbrev pub find_file : ℕ → List (ℕ × How) → Option How
find_file file [] = None
find_file file (h ∷ hs) = if h.0 == file then Some h.1 else find_file file hs

-- the way the file was opened, if it is open
abbrev pub held : ℕ → List Event → Option How
held file before = find_file file (files before)

-- the file is open and passes the test
abbrev pub holds : (How → Bool) → Option How → Bool
holds test None = false
holds test (Some how) = test how

-- the file is open for writing
abbrev pub is_writing : ℕ → List Event → Bool
is_writing file before = holds is_writer (held file before)
