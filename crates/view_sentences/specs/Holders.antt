-- The holders of a file as a walk over a journal finds them.
use Rattle.std.specs.Prelude.{ℕ, ◌+◌, ◌==◌, not, ◌&&◌, Bool, false, List, [], ◌∷◌, Option, Some, None}
use Rattle.view_page.specs.journals.Files.{is_reader, is_writer, with_file}
use Rattle.view_page.specs.journals.Walk.{Walk, walked}
use Rattle.view_page.specs.journals.reading.words.declared.event.Event.{Event}
use Rattle.view_page.specs.journals.reading.words.declared.event.Kind.{Kind}
use Rattle.view_sentences.specs.declared.holders.Holding.{Holding}
use Rattle.view_sentences.specs.declared.holders.Holding.TheVariants as holding

abbrev pub holds : Holding → Kind → Bool
holds holding.Readers k = is_reader k
holds holding.Writers k = is_writer k

abbrev pub is_holder : Holding → ℕ → ℕ → Option Kind → Bool
is_holder h file place None = false
is_holder h file place (Some k) = holds h k && not (place == file)

-- the walk goes on over these events
abbrev pub walked_all : Walk → List Event → Walk
walked_all w [] = w
walked_all w (e ∷ es) = walked_all (walked e w) es

-- the files of places from this one on, before those that were opened earlier
abbrev pub held_from : ℕ → List (ℕ × Kind) → List (Option Kind) → List (ℕ × Kind)
held_from place opened [] = opened
held_from place opened (k ∷ ks) = held_from (place + 1) (with_file place k opened) ks

-- the open files, the one that was opened last first; for each place there is the kind of the file
-- that its event opened, while it is open
abbrev pub held_files : List (Option Kind) → List (ℕ × Kind)
held_files held = held_from 0 [] held
