-- The counts of the strips are those of the journal.
use Rattle.std.proofs.Common.{◌≡◌, ℕ, ◌==◌, Bool, true, false, cond, List, [], ◌∷◌, length, map, Option, Some, None, refl, ap}
use Rattle.std.specs.Prelude.{option_map}
use Rattle.report_read.specs.Short.{short, short_deed, short_told}
use Rattle.report_read.specs.words.declared.event.Kind.{Kind}
use Rattle.report_read.specs.words.declared.event.Kind.TheVariants as kind
use Rattle.report_read.specs.reports.model.events.Files as model
use Rattle.report_read.specs.reports.model.events.declared.deed.Deed.{Deed}
use Rattle.report_read.specs.reports.model.events.declared.deed.Deed.TheVariants as deed
use Rattle.report_read.specs.reports.model.events.declared.deed.How.{How}
use Rattle.report_read.specs.reports.model.events.declared.deed.How.TheVariants as how
use Rattle.report_read.specs.reports.model.events.declared.told.Event.{Event}
use Rattle.report_read.specs.reports.model.events.declared.told.Told.{Told}
use Rattle.report_read.specs.reports.model.events.declared.told.Told.TheVariants as told
use Rattle.view_journal.specs.Files.{dropped, files, is_exec, is_reader, is_writer, less_file, opened, tally, with_file, without_file}
use Rattle.view_journal.specs.Promises.{CountsAreTheJournals}

abbrev pub kind_of : How → Kind
kind_of (how.Read create) = kind.Read
kind_of (how.Write true create) = kind.ReadWrite
kind_of (how.Write false create) = kind.Write
kind_of how.Exec = kind.Exec

abbrev pub with_kind : ℕ × How → ℕ × Kind
with_kind h = (h.0, kind_of h.1)

-- an event opens the same file for the reader of its report
opened_short : (d : Deed) (t : Told) → opened (short_deed d) (short_told t)
    ≡ option_map kind_of (model.counted d t)
opened_short (deed.Count (how.Read create)) told.Held = refl
opened_short (deed.Count (how.Write true create)) told.Held = refl
opened_short (deed.Count (how.Write false create)) told.Held = refl
opened_short (deed.Count how.Exec) told.Held = refl
opened_short (deed.Count (how.Read create)) t = refl
opened_short (deed.Count (how.Write true create)) t = refl
opened_short (deed.Count (how.Write false create)) t = refl
opened_short (deed.Count how.Exec) t = refl
opened_short (deed.SetAttr name None admin) t = refl
opened_short (deed.SetAttr name (Some bytes) admin) t = refl
opened_short d t = refl

-- and drops the same file
dropped_short : (d : Deed) (t : Told) → dropped (short_deed d) (short_told t) ≡ model.dropped d t
dropped_short (deed.Count (how.Read create)) t = refl
dropped_short (deed.Count (how.Write true create)) t = refl
dropped_short (deed.Count (how.Write false create)) t = refl
dropped_short (deed.Count how.Exec) t = refl
dropped_short (deed.SetAttr name None admin) t = refl
dropped_short (deed.SetAttr name (Some bytes) admin) t = refl
dropped_short (deed.Close file) told.Dropped = refl
dropped_short (deed.Close file) t = refl
dropped_short (deed.CloseTake file) told.Dropped = refl
dropped_short (deed.CloseTake file) t = refl
dropped_short (deed.CloseFinish file) told.Dropped = refl
dropped_short (deed.CloseFinish file) told.LabelledDropped = refl
dropped_short (deed.CloseFinish file) t = refl
dropped_short d t = refl

with_short : (place : ℕ) (o : Option How) (hs : List (ℕ × How))
    → with_file place (option_map kind_of o) (map with_kind hs)
    ≡ map with_kind (model.with_file place o hs)
with_short place None hs = refl
with_short place (Some h) hs = refl

less_step : (b : Bool) (file : ℕ) (h : ℕ × How) (hs : List (ℕ × How))
    → less_file file (map with_kind hs) ≡ map with_kind (model.less_file file hs)
    → cond b (map with_kind hs) (with_kind h ∷ less_file file (map with_kind hs))
    ≡ map with_kind (cond b hs (h ∷ model.less_file file hs))
less_step true file h hs e = refl
less_step false file h hs e = ap (λ xs. with_kind h ∷ xs) e

less_short : (file : ℕ) (hs : List (ℕ × How))
    → less_file file (map with_kind hs) ≡ map with_kind (model.less_file file hs)
less_short file [] = refl
less_short file (h ∷ hs) = less_step (h.0 == file) file h hs (less_short file hs)

without_short : (o : Option ℕ) (hs : List (ℕ × How))
    → without_file o (map with_kind hs) ≡ map with_kind (model.without_file o hs)
without_short None hs = refl
without_short (Some file) hs = less_short file hs

length_short : (before : List Event) → length (map short before) ≡ length before
length_short [] = refl
length_short (e ∷ before) = rw (length_short before) refl

-- the same files are open
pub files_short : (before : List Event) → files (map short before)
    ≡ map with_kind (model.files before)
files_short [] = refl
files_short (e ∷ before) =
    rw (
      length_short before,
      opened_short e.deed e.told,
      dropped_short e.deed e.told,
      files_short before,
      without_short (model.dropped e.deed e.told) (model.files before),
    )
    (with_short (length before) (model.counted e.deed e.told)
    (model.without_file (model.dropped e.deed e.told) (model.files before)))

tally_short : (test : Kind → Bool) (like : How → Bool) → ((h : How) → test (kind_of h) ≡ like h)
    → (hs : List (ℕ × How)) → tally test (map with_kind hs) ≡ model.tally like hs
tally_short test like same [] = refl
tally_short test like same (h ∷ hs) = rw (same h.1, tally_short test like same hs) refl

pub reader_short : (h : How) → is_reader (kind_of h) ≡ model.is_reader h
reader_short (how.Read create) = refl
reader_short (how.Write true create) = refl
reader_short (how.Write false create) = refl
reader_short how.Exec = refl

pub writer_short : (h : How) → is_writer (kind_of h) ≡ model.is_writer h
writer_short (how.Read create) = refl
writer_short (how.Write true create) = refl
writer_short (how.Write false create) = refl
writer_short how.Exec = refl

exec_short : (h : How) → is_exec (kind_of h) ≡ model.is_exec h
exec_short (how.Read create) = refl
exec_short (how.Write true create) = refl
exec_short (how.Write false create) = refl
exec_short how.Exec = refl

pub counts_are_the_journals : CountsAreTheJournals
counts_are_the_journals = record {
  readers = λ before. rw (files_short before)
      (tally_short is_reader model.is_reader reader_short (model.files before));
  writers = λ before. rw (files_short before)
      (tally_short is_writer model.is_writer writer_short (model.files before));
  execs = λ before. rw (files_short before)
      (tally_short is_exec model.is_exec exec_short (model.files before));
}
