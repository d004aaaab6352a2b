-- A violation's sentence names exactly the files that are held as readers, or as writers.
use Rattle.std.proofs.Common.{◌≡◌, ℕ, ◌==◌, Bool, true, false, ◌&&◌, not, cond, List, [], ◌∷◌, map, Option, Some, None, refl, sym, ◌∙◌, ap, subst, inl, inr}
use Rattle.std.specs.Prelude.{option_map}
use Rattle.std.proofs.lemmas.Bool.{cases_Bool, eq-eqb, eqb-true}
use Rattle.report_read.specs.Short.{short}
use Rattle.report_read.specs.words.declared.event.Event.{Event as ReadEvent}
use Rattle.report_read.specs.words.declared.event.Kind.{Kind}
use Rattle.report_read.specs.reports.model.events.Files as model
use Rattle.report_read.specs.reports.model.events.declared.deed.How.{How}
use Rattle.report_read.specs.reports.model.events.declared.deed.How.TheVariants as how
use Rattle.report_read.specs.reports.model.events.declared.told.Event.{Event}
use Rattle.report_read.specs.reports.model.events.declared.told.Told.TheVariants as told
use Rattle.view_journal.specs.Files.{files, find_file, is_reader, is_writer}
use Rattle.view_journal.specs.Promises.{HoldersAreNamed}
use Rattle.view_journal.specs.Sentences.{held_by, names}
use Rattle.view_journal.specs.Walk.{Walk, passes, start, walked}
use Rattle.view_journal.proofs.CountsLemmas.{files_short, kind_of, reader_short, with_kind, writer_short}
use Rattle.view_journal.proofs.FilesLemmas.{AreDistinct, Files}
use Rattle.view_journal.proofs.WalkLemmas.{IsWalk, goes_on, starts}

-- ---- no file is open twice

-- a walk over these events
walk_over : (before : List ReadEvent) → (w : Walk) × IsWalk before w
walk_over [] = (start, starts)
walk_over (e ∷ before) =
    let w : (w : Walk) × IsWalk before w = walk_over before in
    (walked e w.0, goes_on before w.0 e w.1)

distinct_files : (before : List ReadEvent) → AreDistinct (files before)
distinct_files before = (walk_over before).1.agrees.distinct

-- ---- the files that a sentence names

-- a file that isn't open isn't named
none_named : (test : Kind → Bool) (file f : ℕ) (hs : Files) → find_file f hs ≡ None
    → (passes test (find_file f hs) && not (f == file)) ≡ false
none_named test file f hs none = ap (λ (o : Option Kind). passes test o && not (f == file)) none

-- a file is named first or not at all
first_named : (b : Bool) (named : List ℕ) (f : ℕ) → names f named ≡ false
    → names f (cond b (f ∷ named) named) ≡ b
first_named true named f n = rw (eq-eqb f f refl) refl
first_named false named f n = n

-- the name of another file changes nothing
other_named : (b : Bool) (g f : ℕ) (named : List ℕ) → (g == f) ≡ false
    → names f (cond b (g ∷ named) named) ≡ names f named
other_named true g f named n = rw n refl
other_named false g f named n = refl

-- a file is named if it passes the test and isn't the file itself
named_of : (test : Kind → Bool) (file f : ℕ) (hs : Files) → AreDistinct hs
    → names f (held_by test file hs) ≡ (passes test (find_file f hs) && not (f == file))
named_of test file f [] d = refl
named_of test file f (h ∷ hs) d =
    elim (cases_Bool (h.0 == f)) [
      | inl t ↦
          let same : h.0 ≡ f = eqb-true h.0 f t in
          let none : find_file f hs ≡ None
          = subst (λ (g : ℕ). find_file g hs ≡ None) same d.0 in
          let rest : names f (held_by test file hs) ≡ false
          = named_of test file f hs d.1 ∙ none_named test file f hs none in
          rw t
          (subst (λ (g : ℕ). names f (cond (test h.1 && not (g == file))
          (g ∷ held_by test file hs) (held_by test file hs)) ≡ (test h.1 && not (f == file)))
          (sym same) (first_named (test h.1 && not (f == file)) (held_by test file hs) f rest))
      | inr n ↦
          rw n
          (other_named (test h.1 && not (h.0 == file)) h.0 f (held_by test file hs) n
          ∙ named_of test file f hs d.1)
    ]

-- ---- of a journal

-- the kind of the first file, or of one of the others
find_step : (b : Bool) (h : How) (o : Option How)
    → cond b (Some (kind_of h)) (option_map kind_of o) ≡ option_map kind_of (cond b (Some h) o)
find_step true h o = refl
find_step false h o = refl

-- a file is open for the reader of a report as it is in the journal
find_short : (f : ℕ) (hs : List (ℕ × How))
    → find_file f (map with_kind hs) ≡ option_map kind_of (model.find_file f hs)
find_short f [] = refl
find_short f (h ∷ hs) =
    ap (λ (o : Option Kind). cond (h.0 == f) (Some (kind_of h.1)) o) (find_short f hs)
    ∙ find_step (h.0 == f) h.1 (model.find_file f hs)

-- and passes the same test
passes_short : (test : Kind → Bool) (like : How → Bool) → ((h : How) → test (kind_of h) ≡ like h)
    → (o : Option How) → passes test (option_map kind_of o) ≡ model.holds like o
passes_short test like same None = refl
passes_short test like same (Some h) = same h

-- the open files that pass the test, but for the file itself
holders_are : (test : Kind → Bool) (like : How → Bool) → ((h : How) → test (kind_of h) ≡ like h)
    → (before : List Event) (file f : ℕ)
    → names f (held_by test file (files (map short before)))
    ≡ (model.holds like (model.held f before) && not (f == file))
holders_are test like same before file f =
    named_of test file f (files (map short before)) (distinct_files (map short before))
    ∙ ap (λ (b : Bool). b && not (f == file))
    (ap (λ (hs : Files). passes test (find_file f hs)) (files_short before)
    ∙ (ap (passes test) (find_short f (model.files before))
    ∙ passes_short test like same (model.find_file f (model.files before))))

-- a test and no exception
and_true : (b : Bool) → (b && true) ≡ b
and_true true = refl
and_true false = refl

-- the file itself needs no exception if it doesn't pass the test
without_itself : (like : How → Bool) (before : List Event) (file f : ℕ)
    → model.holds like (model.held file before) ≡ false
    → (model.holds like (model.held f before) && not (f == file))
    ≡ model.holds like (model.held f before)
without_itself like before file f n = at (f == file) refl where
  at : (b : Bool) → (f == file) ≡ b → (model.holds like (model.held f before) && not b)
      ≡ model.holds like (model.held f before)
  at true e =
      let same : f ≡ file = eqb-true f file e in
      let no : model.holds like (model.held f before) ≡ false
      = ap (λ (g : ℕ). model.holds like (model.held g before)) same ∙ n in
      rw no refl
  at false e = and_true (model.holds like (model.held f before))

-- a writer isn't a reader
writers_dont_read : (o : Option How) → model.holds model.is_writer o ≡ true
    → model.holds model.is_reader o ≡ false
writers_dont_read None h = cc
writers_dont_read (Some (how.Read create)) h = cc
writers_dont_read (Some (how.Write read create)) h = refl
writers_dont_read (Some how.Exec) h = cc

-- a writer finds a ToMToU violation, and a reader one of open writers
told_of_writer : (a b c : Bool) (place q : ℕ)
    → Some (cond a (cond b (told.ToMToU place) told.Quiet)
    (cond c (told.OpenWriters place) told.Quiet)) ≡ Some (told.ToMToU q) → a ≡ true
told_of_writer true b c place q e = refl
told_of_writer false b true place q e = cc
told_of_writer false b false place q e = cc

-- and a reader one of open writers
told_of_reader : (a b c : Bool) (place q : ℕ)
    → Some (cond a (cond b (told.ToMToU place) told.Quiet)
    (cond c (told.OpenWriters place) told.Quiet)) ≡ Some (told.OpenWriters q) → a ≡ false
told_of_reader true true c place q e = cc
told_of_reader true false c place q e = cc
told_of_reader false b c place q e = refl

pub holders_are_named : HoldersAreNamed
holders_are_named = record {
  readers = λ inode before who file func action rules p f h.
      holders_are is_reader model.is_reader reader_short before file f
      ∙ without_itself model.is_reader before file f
      (writers_dont_read (model.held file before)
      (told_of_writer (model.is_writing file before) _ _ _ p h.2));
  writers = λ inode before who file func action rules p f h.
      holders_are is_writer model.is_writer writer_short before file f
      ∙ without_itself model.is_writer before file f
      (told_of_reader (model.is_writing file before) _ _ _ p h.2);
}
