-- The race of a reader and a writer, and small frames, worked out by hand.
use Rattle.std.proofs.Common.{◌≡◌, ℕ, true, false, List, [], ◌∷◌, Some, None, refl}
use Rattle.report_read.specs.reports.model.events.meta.declared.step.Who.{Who}
use Rattle.report_read.specs.words.declared.event.Deed.{Deed}
use Rattle.report_read.specs.words.declared.event.Deed.TheVariants as deed
use Rattle.report_read.specs.words.declared.event.Event.{Event}
use Rattle.report_read.specs.words.declared.event.Kind.TheVariants as kind
use Rattle.report_read.specs.words.declared.event.Outcome.{Outcome}
use Rattle.report_read.specs.words.declared.event.Outcome.TheVariants as outcome
use Rattle.report_read.specs.words.declared.event.Placed.TheVariants as placed
use Rattle.report_read.specs.words.declared.event.Verdict.TheVariants as verdict
use Rattle.report_read.specs.Draft.{no_span}
use Rattle.view_journal.specs.declared.frame.Extent.{Extent}
use Rattle.view_journal.specs.declared.kinds.Freshness.TheVariants as fresh
use Rattle.view_journal.specs.declared.kinds.Mark.TheVariants as mark
use Rattle.view_journal.specs.declared.kinds.Note.TheVariants as note
use Rattle.view_journal.specs.Bars.{bars}
use Rattle.view_journal.specs.Files.{counts_at}
use Rattle.view_journal.specs.Frame.{column_of, rows}
use Rattle.view_journal.specs.Notes.{mark_of, notes}
use Rattle.view_journal.specs.State.{freshness_at}
use Rattle.view_journal.specs.declared.window.Window.{Window}
use Rattle.view_journal.specs.Windows.{windows, windows_around}

abbrev step : ℕ → ℕ → ℕ → Who
step t c s = record { task = t; call = c; step = s }

abbrev event : Who → Deed → Outcome → Event
event who d o = record { line = no_span; who = who; deed = d; outcome = o }

abbrev added : ℕ → Outcome
added p = outcome.Granted (record {
  entry = p;
  placed = placed.Added;
  verdict = verdict.NotAppraised;
  admitted = true;
  labelled = false;
})

-- the reader opens before the writer, and is measured while the writer is open; the writer is
-- checked after the measurement, and writes
abbrev race : List Event
race =
    event (step 0 0 0) deed.Birth outcome.Born
    ∷ event (step 0 0 0) (deed.Count kind.Read false) outcome.Held
    ∷ event (step 1 0 0) (deed.Count kind.Write false) outcome.Held
    ∷ event (step 0 0 1) (deed.Check 1) (outcome.OpenWriters 1)
    ∷ event (step 0 0 2) (deed.Take 1) outcome.Begun
    ∷ event (step 0 0 3) (deed.Chunk 1) outcome.Last
    ∷ event (step 0 0 4) (deed.Finish 1) (added 2)
    ∷ event (step 1 0 1) (deed.Check 2) (outcome.ToMToU 3)
    ∷ event (step 1 1 0) (deed.Write 2 1 1) outcome.Done
    ∷ event (step 0 1 0) (deed.Read 1 0 4096) (outcome.Bytes 3)
    ∷ event (step 1 2 0) (deed.CloseTake 2) outcome.Dropped ∷ []

strips : (counts_at 0 race ≡ record { readers = 0; writers = 0; execs = 0 })
    × (counts_at 9 race ≡ record { readers = 1; writers = 1; execs = 0 })
    × (counts_at 10 race ≡ record { readers = 1; writers = 0; execs = 0 })
    × (freshness_at 5 race ≡ fresh.NotHashed) × (freshness_at 6 race ≡ fresh.AsHashed)
    × (freshness_at 7 race ≡ fresh.AsHashed) × (freshness_at 8 race ≡ fresh.Written)
strips = (refl, refl, refl, refl, refl, refl, refl)

open_files : bars race
    ≡ record { file = 1; kind = kind.Read; task = 0; last = 10; still = true }
    ∷ record { file = 2; kind = kind.Write; task = 1; last = 10; still = false } ∷ []
open_files = refl

-- a write to what the open collection took: the digest describes no content of the file
abbrev hit : ℕ → List Event
hit from =
    event (step 0 0 0) deed.Birth outcome.Born
    ∷ event (step 0 0 0) (deed.Count kind.Read false) outcome.Held
    ∷ event (step 1 0 0) (deed.Count kind.Write false) outcome.Held
    ∷ event (step 0 0 1) (deed.Take 1) outcome.Begun
    ∷ event (step 0 0 2) (deed.Chunk 1) outcome.More
    ∷ event (step 1 1 0) (deed.Write 2 from 1) outcome.Done
    ∷ event (step 0 0 3) (deed.Chunk 1) outcome.Last
    ∷ event (step 0 0 4) (deed.Finish 1) (added 2) ∷ []

collections : (freshness_at 7 (hit 4095) ≡ fresh.Written)
    × (freshness_at 7 (hit 4096) ≡ fresh.AsHashed)
collections = (refl, refl)

shown : (notes (event (step 1 0 1) (deed.Check 2) (outcome.ToMToU 3)) ≡ note.ToMToU 3 ∷ [])
    × (mark_of (event (step 1 0 1) (deed.Check 2) (outcome.ToMToU 3)) ≡ mark.Violated)
    × (notes (event (step 0 0 4) (deed.Finish 1) (added 2)) ≡ note.Added 2 ∷ [])
    × (mark_of (event (step 0 0 4) (deed.Finish 1) (added 2)) ≡ mark.Granted)
    × (mark_of (event (step 0 2 0) deed.SetAttr outcome.EvmName) ≡ mark.NotDone)
    × (notes (event (step 0 2 0) deed.SetAttr outcome.EvmName) ≡ note.Denied ∷ [])
shown = (refl, refl, refl, refl, refl, refl)

-- ---- the frame

abbrev from_to : ℕ → ℕ → Window
from_to a b = record { first = a; last = b }

drawn_whole : (windows 120 race ≡ from_to 0 10 ∷ [])
    × (column_of (windows 120 race) 0 ≡ Some 96) × (column_of (windows 120 race) 10 ≡ Some 396)
    × (column_of (windows 120 race) 11 ≡ None)
drawn_whole = (refl, refl, refl, refl)

-- of a journal of 1,000 events: the windows around 0 and 10 meet, that around 900 doesn't, and a
-- gap of 90 pixels is between them
with_gaps : (windows_around 120 999 (10 ∷ 900 ∷ []) ≡ from_to 0 18 ∷ from_to 892 908 ∷ [])
    × (windows_around 20 999 (10 ∷ 900 ∷ []) ≡ from_to 0 18 ∷ [])
    × (windows_around 18 999 (10 ∷ []) ≡ from_to 0 8 ∷ [])
    × (windows_around 120 999 (999 ∷ []) ≡ from_to 0 8 ∷ from_to 991 999 ∷ [])
    × (column_of (from_to 0 18 ∷ from_to 892 908 ∷ []) 892 ≡ Some 756)
    × (column_of (from_to 0 18 ∷ from_to 892 908 ∷ []) 19 ≡ None)
with_gaps = (refl, refl, refl, refl, refl, refl)

abbrev span : ℕ → ℕ → Extent
span a b = record { from = a; to = b }

first_fit : rows (span 0 5 ∷ span 2 3 ∷ span 4 9 ∷ span 6 7 ∷ []) ≡ 0 ∷ 1 ∷ 1 ∷ 0 ∷ []
first_fit = refl
