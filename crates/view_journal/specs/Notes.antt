-- What an event is marked with.
use Rattle.std.specs.Prelude.{ℕ, Bool, true, false, List, [], ◌∷◌, ◌++◌, if◌then◌else◌}
use Rattle.std.specs.List.{list_any}
use Rattle.report_read.specs.words.declared.event.Deed.{Deed}
use Rattle.report_read.specs.words.declared.event.Deed.TheVariants as deed
use Rattle.report_read.specs.words.declared.event.Event.{Event}
use Rattle.report_read.specs.words.declared.event.Grant.{Grant}
use Rattle.report_read.specs.words.declared.event.Outcome.{Outcome}
use Rattle.report_read.specs.words.declared.event.Outcome.TheVariants as outcome
use Rattle.report_read.specs.words.declared.event.Placed.{Placed}
use Rattle.report_read.specs.words.declared.event.Placed.TheVariants as placed
use Rattle.report_read.specs.words.declared.event.Verdict.{Verdict}
use Rattle.report_read.specs.words.declared.event.Verdict.TheVariants as verdict
use Rattle.view_journal.specs.declared.kinds.Mark.{Mark}
use Rattle.view_journal.specs.declared.kinds.Mark.TheVariants as mark
use Rattle.view_journal.specs.declared.kinds.Note.{Note}
use Rattle.view_journal.specs.declared.kinds.Note.TheVariants as note

-- ---- notes

abbrev pub placed_notes : Placed → ℕ → List Note
placed_notes placed.NotMeasured entry = []
placed_notes placed.Added entry = note.Added entry ∷ []
placed_notes placed.Already entry = note.Already entry ∷ []

abbrev pub verdict_notes : Verdict → List Note
verdict_notes verdict.NotAppraised = []
verdict_notes verdict.Pass = note.Passed ∷ []
verdict_notes verdict.Deny = note.Denied ∷ []

abbrev pub flag_notes : Note → Bool → List Note
flag_notes n true = n ∷ []
flag_notes n false = []

abbrev pub grant_notes : Grant → List Note
grant_notes g =
    placed_notes g.placed g.entry ++ verdict_notes g.verdict ++ flag_notes note.Labelled g.labelled

-- a refusal of a change of attributes or metadata
abbrev pub is_refused_change : Outcome → Bool
is_refused_change outcome.Done = false
is_refused_change _ = true

-- the notes of an event, in the order in which its flags stand
abbrev pub notes_by : Deed → Outcome → List Note
notes_by d (outcome.ToMToU p) = note.ToMToU p ∷ []
notes_by d (outcome.OpenWriters p) = note.OpenWriters p ∷ []
notes_by d (outcome.Granted g) = grant_notes g
notes_by d outcome.LabelledDropped = note.Labelled ∷ []
notes_by (deed.Count k create) outcome.NotFound = note.Denied ∷ []
notes_by (deed.Count k create) outcome.TextBusy = note.Denied ∷ []
notes_by deed.SetAttr o = flag_notes note.Denied (is_refused_change o)
notes_by deed.RemoveAttr o = flag_notes note.Denied (is_refused_change o)
notes_by deed.SetMeta o = flag_notes note.Denied (is_refused_change o)
notes_by _ _ = []

abbrev pub notes : Event → List Note
notes e = notes_by e.deed e.outcome

-- windows are drawn around these notes
abbrev pub is_grave : Note → Bool
is_grave (note.ToMToU p) = true
is_grave (note.OpenWriters p) = true
is_grave note.Denied = true
is_grave note.Labelled = true
is_grave _ = false

abbrev pub is_marked : Event → Bool
is_marked e = list_any is_grave (notes e)

-- ---- marks

abbrev pub granted_mark : Grant → Mark
granted_mark g = if g.admitted then mark.Granted else mark.Refused

abbrev pub done_mark : Mark → Outcome → Mark
done_mark m outcome.Done = m
done_mark m _ = mark.NotDone

abbrev pub take_mark : Outcome → Mark
take_mark (outcome.Granted g) = granted_mark g
take_mark _ = mark.Begun

abbrev pub count_mark : Outcome → Mark
count_mark outcome.Held = mark.Opened
count_mark _ = mark.NotOpened

abbrev pub check_mark : Outcome → Mark
check_mark outcome.Quiet = mark.Checked
check_mark _ = mark.Violated

abbrev pub close_mark : Outcome → Mark
close_mark outcome.Begun = mark.Begun
close_mark _ = mark.Closed

-- each event has one mark
abbrev pub mark_by : Deed → Outcome → Mark
mark_by deed.Birth o = mark.Birth
mark_by (deed.Count k create) o = count_mark o
mark_by (deed.Check file) o = check_mark o
mark_by (deed.Take file) o = take_mark o
mark_by (deed.Chunk file) o = mark.Chunk
mark_by (deed.Finish file) o = take_mark o
mark_by (deed.Read file from len) o = mark.Read
mark_by (deed.Write file from len) o = done_mark mark.Write o
mark_by (deed.Trunc file len) o = done_mark mark.Trunc o
mark_by deed.SetAttr o = done_mark mark.SetAttr o
mark_by deed.RemoveAttr o = done_mark mark.SetAttr o
mark_by deed.SetMeta o = done_mark mark.SetMeta o
mark_by (deed.Close file) o = mark.Closed
mark_by (deed.CloseTake file) o = close_mark o
mark_by (deed.CloseChunk file) o = mark.Chunk
mark_by (deed.CloseFinish file) o = mark.Finished

abbrev pub mark_of : Event → Mark
mark_of e = mark_by e.deed e.outcome
