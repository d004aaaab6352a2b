-- The sentences below a drawing: violations with their holders, what wasn't admitted or not done,
-- labels, and reads of content that isn't as hashed.
use Rattle.std.specs.Prelude.{ℕ, ◌+◌, ◌-◌, ◌==◌, nat_lt, Bool, true, false, ◌||◌, ◌&&◌, List, [], ◌∷◌, ◌++◌, length, reverse, take, slice_get, Option, Some, None, if◌then◌else◌}
use Rattle.std.specs.List.{flat_map}
use Rattle.view_page.specs.declared.view.View.{View}
use Rattle.view_page.specs.journals.State.{is_write}
use Rattle.view_page.specs.journals.Notes.{is_marked}
use Rattle.view_page.specs.journals.Sentences.{holders}
use Rattle.view_page.specs.journals.Walk.{states_of}
use Rattle.view_page.specs.journals.declared.kinds.Freshness.{Freshness}
use Rattle.view_page.specs.journals.declared.kinds.Freshness.TheVariants as fresh
use Rattle.view_page.specs.journals.declared.walk.State.{State}
use Rattle.view_page.specs.journals.declared.window.Window.{Window}
use Rattle.view_page.specs.journals.reading.words.declared.event.Deed.{Deed}
use Rattle.view_page.specs.journals.reading.words.declared.event.Deed.TheVariants as deed
use Rattle.view_page.specs.journals.reading.words.declared.event.Event.{Event}
use Rattle.view_page.specs.journals.reading.words.declared.event.Grant.{Grant}
use Rattle.view_page.specs.journals.reading.words.declared.event.Kind.{Kind}
use Rattle.view_page.specs.journals.reading.words.declared.event.Kind.TheVariants as kind
use Rattle.view_page.specs.journals.reading.words.declared.event.Outcome.{Outcome}
use Rattle.view_page.specs.journals.reading.words.declared.event.Outcome.TheVariants as outcome
use Rattle.view_page.specs.journals.reading.words.declared.event.Verdict.{Verdict}
use Rattle.view_page.specs.journals.reading.words.declared.event.Verdict.TheVariants as verdict
use Rattle.view_sentences.specs.Alike.{file_of, is_drawn, opener}
use Rattle.view_page.specs.Parts.{more}
use Rattle.view_page.specs.Words.{after_word, cut}
use Rattle.view_page.specs.declared.html.Table.TheVariants as table
use Rattle.view_page.specs.declared.part.Part.{Part}
use Rattle.view_page.specs.declared.part.Part.TheVariants as part
use Rattle.view_page.specs.declared.told.Told.{Told}
use Rattle.view_page.specs.declared.told.Told.TheVariants as told

-- ---- the events that have a sentence

-- a read of at least a byte of content that was written since it was hashed
abbrev pub is_stale : Outcome → Freshness → Bool
is_stale (outcome.Bytes n) fresh.Written = nat_lt 0 n
is_stale _ _ = false

abbrev pub is_told : Event → State → Bool
is_told e s = is_marked e || is_stale e.outcome s.freshness

-- the events from this place on that have a sentence; a state for each is what the strips show
abbrev pub told_from : ℕ → List Event → List State → List ℕ
told_from place [] ss = []
told_from place (e ∷ es) [] = []
told_from place (e ∷ es) (s ∷ ss) =
    if is_told e s then place ∷ told_from (place + 1) es ss else told_from (place + 1) es ss

-- the places of the events that have a sentence, in order
abbrev pub told_places : List Event → List ℕ
told_places journal = told_from 0 journal (states_of journal)

-- at most as many have one
abbrev pub most_told : ℕ
most_told = 20

-- the first places so far, with one more if it has a sentence
abbrev pub kept : Bool → List ℕ → ℕ → List ℕ
kept told places place =
    if told && nat_lt (length places) most_told then places ++ place ∷ [] else places

-- ---- the holders

-- the events before a place, the newest first
abbrev pub before : ℕ → List Event → List Event
before place journal = reverse (take place journal)

abbrev pub kind_word : Kind → Told
kind_word kind.Read = told.Reading
kind_word kind.Write = told.Writing
kind_word kind.ReadWrite = told.ReadingAndWriting
kind_word kind.Exec = told.Execution

abbrev pub use_by : Deed → Told
use_by (deed.Count k create) = kind_word k
use_by _ = told.Use

-- what the event opened its file for
abbrev pub use_of : Option Event → Told
use_of None = told.Use
use_of (Some e) = use_by e.deed

abbrev pub holder_by : ℕ → Option Event → List Part
holder_by file None = []
holder_by file (Some e) =
    part.Told told.Task ∷ part.Number e.who.task ∷ part.Told told.Holds
    ∷ part.Told (use_by e.deed) ∷ part.Told told.Since ∷ part.Number file
    ∷ part.Told told.HoldsEnd ∷ []

-- the task that holds the file, what for, and since when
abbrev pub holder : List Event → ℕ → List Part
holder journal file = holder_by file (slice_get journal file)

abbrev pub comma_by : ℕ → List Part
comma_by n = if n == 0 then [] else part.Told told.Comma ∷ []

-- these holders, after so many others
abbrev pub named_from : List Event → ℕ → List ℕ → List Part
named_from journal n [] = []
named_from journal n (file ∷ files) =
    (comma_by n ++ holder journal file) ++ named_from journal (n + 1) files

-- at most as many holders are named
abbrev pub most_named : ℕ
most_named = 4

-- the holders of a file, the first of which are named
abbrev pub named : List Event → List ℕ → List Part
named journal files =
    named_from journal 0 (take most_named files)
    ++ more (part.Told told.And) (length files - most_named) (part.Told told.More)

-- the holders of the file at a violation, in the order in which they opened it
abbrev pub holders_at : List Event → ℕ → Event → List ℕ
holders_at journal place e = reverse (holders e (before place journal))

-- ---- what is said

-- which task opened the file, and what for
abbrev pub opened : Event → Told → Told → Told → List Part
opened e before used after =
    part.Told told.Task ∷ part.Number e.who.task ∷ part.Told before ∷ part.Told used
    ∷ part.Told after ∷ []

abbrev pub used_in : List Event → Event → Told
used_in journal e = use_of (opener journal (file_of e.deed))

abbrev pub entry_is : ℕ → Told → List Part
entry_is p violation =
    part.Told told.EntryIs ∷ part.Number p ∷ part.Told violation ∷ []

abbrev pub tomtou : List Event → ℕ → Event → ℕ → List Part
tomtou journal place e p =
    opened e told.OpenedFor (used_in journal e) told.Measured
    ++ named journal (holders_at journal place e) ++ entry_is p told.ToMToU

abbrev pub open_writers : List Event → ℕ → Event → ℕ → List Part
open_writers journal place e p =
    opened e told.OpenedToMeasure (used_in journal e) told.HeldBy
    ++ named journal (holders_at journal place e) ++ entry_is p told.OpenWriters

-- what wasn't admitted, opened or done: the deed and what came of it
abbrev pub refused : List ℕ → Event → List Part
refused text e =
    part.Told told.Task ∷ part.Number e.who.task ∷ part.Told told.Call
    ∷ part.Number e.who.call ∷ part.Told told.WasTold
    ∷ part.Text (cut 160 (after_word text (after_word text e.line)))
    ∷ part.Told told.CodeEnd ∷ []

abbrev pub labelled : Event → List Part
labelled e =
    part.Told told.Labelled ∷ part.Number e.who.call ∷ part.Told told.OfTask
    ∷ part.Number e.who.task ∷ []

-- the place of the last write of these events, which are newest first
abbrev pub last_write : List Event → Option ℕ
last_write [] = None
last_write (e ∷ es) =
    if is_write e.deed e.outcome then Some (length es) else last_write es

abbrev pub writer_at : ℕ → Option Event → List Part
writer_at place None = []
writer_at place (Some e) =
    part.Told told.Writer ∷ part.Number e.who.task ∷ part.Told told.Wrote
    ∷ part.Number place ∷ []

abbrev pub writer : List Event → Option ℕ → List Part
writer journal None = []
writer journal (Some place) = writer_at place (slice_get journal place)

abbrev pub not_as_hashed : Event → List Part
not_as_hashed e =
    part.Told told.Task ∷ part.Number e.who.task ∷ part.Told told.NotAsHashed ∷ []

abbrev pub stale : List Event → ℕ → Event → List Part
stale journal place e =
    not_as_hashed e ++ writer journal (last_write (before place journal))

abbrev pub is_denied : Verdict → Bool
is_denied verdict.Deny = true
is_denied _ = false

abbrev pub granted : List ℕ → Event → Grant → List Part
granted text e g = if is_denied g.verdict then refused text e else labelled e

-- what is said of an event
abbrev pub said : List ℕ → List Event → ℕ → Event → Outcome → List Part
said text journal place e (outcome.ToMToU p) = tomtou journal place e p
said text journal place e (outcome.OpenWriters p) = open_writers journal place e p
said text journal place e (outcome.Granted g) = granted text e g
said text journal place e outcome.LabelledDropped = labelled e
said text journal place e (outcome.Bytes n) = stale journal place e
said text journal place e o = refused text e

-- ---- the sentences

abbrev pub colour_of : Outcome → Told
colour_of (outcome.Granted g) = if is_denied g.verdict then told.Bad else told.Plain
colour_of outcome.LabelledDropped = told.Plain
colour_of (outcome.Bytes n) = told.Stale
colour_of _ = told.Bad

-- the event, with a link if it is drawn
abbrev pub event_link : Bool → View → ℕ → List Part
event_link true view place =
    part.Table table.Link ∷ part.Side view.side ∷ part.Table table.I ∷ part.Number view.inode
    ∷ part.Table table.E ∷ part.Number place ∷ part.Table table.Shown ∷ part.Told told.Event
    ∷ part.Number place ∷ part.Table table.LinkEnd ∷ []
event_link false view place = part.Told told.Event ∷ part.Number place ∷ []

abbrev pub sentence_by : List ℕ → View → List Event → List Window → ℕ → Option Event → List Part
sentence_by text view journal ws place None = []
sentence_by text view journal ws place (Some e) =
    part.Told (colour_of e.outcome) ∷ []
    ++ event_link (is_drawn ws place) view place
    ++ part.Told told.Is ∷ []
    ++ said text journal place e e.outcome
    ++ part.Told told.ItemEnd ∷ []

-- the sentence of the event at a place
abbrev pub sentence : List ℕ → View → List Event → List Window → ℕ → List Part
sentence text view journal ws place =
    sentence_by text view journal ws place (slice_get journal place)

-- the sentences of these places, which are the first of so many
abbrev pub list_of : List ℕ → View → List Event → List Window → List ℕ → ℕ → List Part
list_of text view journal ws places n =
    part.Told told.List ∷ []
    ++ flat_map (sentence text view journal ws) places
    ++ more (part.Told told.MoreItems) (n - most_told) (part.Told told.MoreItemsEnd)
    ++ part.Told told.ListEnd ∷ []

abbrev pub list_by : List ℕ → View → List Event → List Window → List ℕ → ℕ → List Part
list_by text view journal ws places n =
    if n == 0 then [] else list_of text view journal ws places n

-- the sentences of a journal
abbrev pub sentences : List ℕ → View → List Event → List Window → List Part
sentences text view journal ws =
    list_by text view journal ws (take most_told (told_places journal))
    (length (told_places journal))
