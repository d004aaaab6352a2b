-- What has to be true of a picture.
use Rattle.std.specs.Prelude.{◌≡◌, ℕ, ◌+◌, ◌<◌, ◌≤◌, All, List, [], ◌∷◌, length, map, count_by, sum_by, slice_get, Option, Some, None, option_map}
use Rattle.report_read.specs.Short.{short}
use Rattle.report_read.specs.words.declared.event.Event.{Event as Read}
use Rattle.report_read.specs.reports.model.events.Files.{execs as execs_of, held, holds, is_reader, is_writer, readers as readers_of, writers as writers_of}
use Rattle.report_read.specs.reports.model.events.Inode.{Inode}
use Rattle.report_read.specs.reports.model.events.Integrity.{Collection, digest_from, integrity}
use Rattle.report_read.specs.reports.model.events.Legal.{Follows, Legal}
use Rattle.report_read.specs.reports.model.events.Merged.{IsMerged, Journal}
use Rattle.report_read.specs.reports.model.events.State.{content}
use Rattle.report_read.specs.reports.model.events.declared.deed.Deed.{Deed}
use Rattle.report_read.specs.reports.model.events.declared.deed.Deed.TheVariants as deed
use Rattle.report_read.specs.reports.model.events.declared.told.Event.{Event}
use Rattle.report_read.specs.reports.model.events.declared.told.Told.{Told}
use Rattle.report_read.specs.reports.model.events.declared.told.Told.TheVariants as told
use Rattle.report_read.specs.reports.model.events.hashes.Digest.{digest_of}
use Rattle.report_read.specs.reports.model.events.hashes.declared.digest.Digest.{Digest}
use Rattle.report_read.specs.reports.model.events.meta.declared.step.Who.{Who}
use Rattle.report_read.specs.reports.model.events.policy.declared.access.Action.{Action}
use Rattle.report_read.specs.reports.model.events.policy.declared.rule.Func.{Func}
use Rattle.report_read.specs.reports.model.events.templates.declared.entry.Entry.{Entry}
use Rattle.view_journal.specs.declared.frame.Extent.{Extent}
use Rattle.view_journal.specs.declared.kinds.Freshness.TheVariants as fresh
use Rattle.view_journal.specs.declared.column.Column.{Column}
use Rattle.view_journal.specs.declared.window.Window.{Window}
use Rattle.view_journal.specs.Bars.{bars, lane, shown_bars}
use Rattle.view_journal.specs.Columns.{columns_of}
use Rattle.view_journal.specs.Files.{execs, readers, up_to, writers}
use Rattle.view_journal.specs.Frame.{AreInOrder, column, column_of, rows}
use Rattle.view_journal.specs.Sentences.{adds, holders, names}
use Rattle.view_journal.specs.State.{freshness}
use Rattle.view_journal.specs.Walk.{state_after}
use Rattle.view_journal.specs.Windows.{AreWindows, windows}

abbrev pub event : Who → Deed → Told → Event
event who d t = record { who = who; deed = d; told = t }

-- ---- the strips

-- the counts of the strips are those of the journal
pub record CountsAreTheJournals : Type 0 where
  pub readers : (before : List Event) → readers (map short before) ≡ readers_of before
  pub writers : (before : List Event) → writers (map short before) ≡ writers_of before
  pub execs : (before : List Event) → execs (map short before) ≡ execs_of before

-- the digest that a finish gives, or a close-finish that writes the label
abbrev pub finished_by : Deed → Told → Option Collection → Option Digest → Option Digest
finished_by (deed.Finish file) t c old = option_map digest_from c
finished_by (deed.CloseFinish file) told.LabelledDropped c old = option_map digest_from c
finished_by _ _ c old = old

-- the last digest that was finished
abbrev pub last_finished : Inode → List Event → Option Digest
last_finished inode [] = None
last_finished inode (e ∷ before) =
    finished_by e.deed e.told (integrity inode before).collecting (last_finished inode before)

-- under `as hashed`, the last finished digest is the digest of the content there
abbrev pub AsHashedIsSound : Type 0
AsHashedIsSound =
    (inode : Inode) (before : List Event) → Legal inode before
    → freshness (map short before) ≡ fresh.AsHashed
    → (d : Digest) × (last_finished inode before ≡ Some d)
    × (d ≡ digest_of d.algo (content before))

-- ---- the sentences

-- at a ToMToU violation the sentence names exactly the files that are held as readers there, and at
-- one of open writers those that are held as writers
pub record HoldersAreNamed : Type 0 where
  pub readers : (inode : Inode) (before : List Event) (who : Who) (file : ℕ) (func : Func)
      (action : Action) (rules p f : ℕ)
      → Follows inode before who (deed.Check file func action rules) (told.ToMToU p)
      → names f (holders (short (event who (deed.Check file func action rules) (told.ToMToU p)))
      (map short before)) ≡ holds is_reader (held f before)
  pub writers : (inode : Inode) (before : List Event) (who : Who) (file : ℕ) (func : Func)
      (action : Action) (rules p f : ℕ)
      → Follows inode before who (deed.Check file func action rules) (told.OpenWriters p)
      → names f (holders
      (short (event who (deed.Check file func action rules) (told.OpenWriters p)))
      (map short before)) ≡ holds is_writer (held f before)

-- ---- the list

-- each entry but the first was added by exactly one event
abbrev pub EntriesAreAddedOnce : Type 0
EntriesAreAddedOnce =
    (boot : Entry) (list : List Entry) (journals : List Journal)
    → All (λ (j : Journal). Legal j.inode j.events) journals → IsMerged boot list journals
    → (p : ℕ) → 0 < p → p < length list
    → sum_by (λ (j : Journal). count_by (adds p) (map short j.events)) journals ≡ 1

-- ---- the frame

-- the windows of a journal come one after another
abbrev pub WindowsAreInOrder : Type 0
WindowsAreInOrder =
    (most : ℕ) (journal : List Event) → AreWindows 0 (windows most (map short journal))

-- the columns of drawn places don't overlap, and stand in the order of the places
abbrev pub ColumnsDiffer : Type 0
ColumnsDiffer =
    (ws : List Window) (p q x y : ℕ) → AreWindows 0 ws → p < q → column_of ws p ≡ Some x
    → column_of ws q ≡ Some y → x + column ≤ y

-- a column is that of its place: it stands where the windows put it, and has the event there and
-- what the strips show after it
pub record IsColumnOf (ws : List Window) (journal : List Read) (c : Column) : Type 0 where
  pub x : column_of ws c.place ≡ Some c.x
  pub event : slice_get journal c.place ≡ Some c.event
  pub state : c.state ≡ state_after (up_to c.place journal)

abbrev pub ColumnsAreTheJournals : Type 0
ColumnsAreTheJournals =
    (ws : List Window) (journal : List Read)
    → All (IsColumnOf ws journal) (columns_of ws journal)

-- the bars of a lane stand in the order of their counts, all of a journal's and those that are
-- drawn
pub record LanesAreInOrder : Type 0 where
  pub all : (task : ℕ) (journal : List Read) → AreInOrder (lane task (bars journal))
  pub drawn : (task : ℕ) (ws : List Window) (journal : List Read)
      → AreInOrder (lane task (shown_bars ws journal))

-- two bars of one row don't overlap
abbrev pub BarsDontOverlap : Type 0
BarsDontOverlap =
    (spans : List Extent) (i j row : ℕ) (a b : Extent) → AreInOrder spans → i < j
    → slice_get spans i ≡ Some a → slice_get spans j ≡ Some b
    → slice_get (rows spans) i ≡ Some row → slice_get (rows spans) j ≡ Some row
    → a.to < b.from
