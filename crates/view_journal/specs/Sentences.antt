-- What the sentences below a drawing name: the holders of a file at a violation, and the event that
-- added an entry. Lists of events are newest first.
use Rattle.std.specs.Prelude.{ℕ, ◌==◌, Bool, false, not, ◌&&◌, List, [], ◌∷◌, if◌then◌else◌}
use Rattle.std.specs.List.{list_any}
use Rattle.report_read.specs.words.declared.event.Deed.{Deed}
use Rattle.report_read.specs.words.declared.event.Deed.TheVariants as deed
use Rattle.report_read.specs.words.declared.event.Event.{Event}
use Rattle.report_read.specs.words.declared.event.Kind.{Kind}
use Rattle.report_read.specs.words.declared.event.Outcome.{Outcome}
use Rattle.report_read.specs.words.declared.event.Outcome.TheVariants as outcome
use Rattle.view_journal.specs.declared.kinds.Note.{Note}
use Rattle.view_journal.specs.declared.kinds.Note.TheVariants as note
use Rattle.view_journal.specs.Files.{files, is_reader, is_writer}
use Rattle.view_journal.specs.Notes.{notes}

-- ---- the holders of a file

-- the open files that pass the test, other than the file itself
abbrev pub held_by : (Kind → Bool) → ℕ → List (ℕ × Kind) → List ℕ
held_by test file [] = []
held_by test file (h ∷ hs) =
    if test h.1 && not (h.0 == file) then h.0 ∷ held_by test file hs else held_by test file hs

-- at a ToMToU violation the readers hold the file, and at one of open writers the writers
abbrev pub holders_by : Deed → Outcome → List Event → List ℕ
holders_by (deed.Check file) (outcome.ToMToU p) before = held_by is_reader file (files before)
holders_by (deed.Check file) (outcome.OpenWriters p) before =
    held_by is_writer file (files before)
holders_by _ _ before = []

-- the files whose holders the sentence of an event names
abbrev pub holders : Event → List Event → List ℕ
holders e before = holders_by e.deed e.outcome before

-- the file is among those that a sentence names
abbrev pub names : ℕ → List ℕ → Bool
names file files = list_any (λ f. f == file) files

-- ---- who added an entry

abbrev pub adds_by : ℕ → Note → Bool
adds_by p (note.Added q) = q == p
adds_by p (note.ToMToU q) = q == p
adds_by p (note.OpenWriters q) = q == p
adds_by p _ = false

-- the event added the entry
abbrev pub adds : ℕ → Event → Bool
adds p e = list_any (adds_by p) (notes e)
