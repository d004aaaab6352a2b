-- An event of a run as a reader of its report keeps it.
use Rattle.std.specs.Prelude.{ℕ, false, List, length, Option, Some, None, if◌then◌else◌}
use Rattle.report_text.specs.model.events.declared.deed.Deed as model_deed
use Rattle.report_text.specs.model.events.declared.deed.Deed.TheVariants as deed
use Rattle.report_text.specs.model.events.declared.deed.How.{How}
use Rattle.report_text.specs.model.events.declared.deed.How.TheVariants as how
use Rattle.report_text.specs.model.events.declared.told.Event as model_event
use Rattle.report_text.specs.model.events.declared.told.Grant as model_grant
use Rattle.report_text.specs.model.events.declared.told.Told as model_told
use Rattle.report_text.specs.model.events.declared.told.Told.TheVariants as told
use Rattle.report_text.specs.model.events.labels.declared.verdict.Verdict as model_verdict
use Rattle.report_text.specs.model.events.labels.declared.verdict.Verdict.TheVariants as verdict
use Rattle.report_text.specs.model.events.templates.declared.entry.Placed as model_placed
use Rattle.report_text.specs.model.events.templates.declared.entry.Placed.TheVariants as placed
use Rattle.report_words.specs.declared.event.Deed.{Deed}
use Rattle.report_words.specs.declared.event.Deed.TheVariants as read_deed
use Rattle.report_words.specs.declared.event.Event.{Event}
use Rattle.report_words.specs.declared.event.Grant.{Grant}
use Rattle.report_words.specs.declared.event.Kind.TheVariants as kind
use Rattle.report_words.specs.declared.event.Outcome.{Outcome}
use Rattle.report_words.specs.declared.event.Outcome.TheVariants as outcome
use Rattle.report_words.specs.declared.event.Placed.{Placed}
use Rattle.report_words.specs.declared.event.Placed.TheVariants as read_placed
use Rattle.report_words.specs.declared.event.Span.{Span}
use Rattle.report_words.specs.declared.event.Verdict.{Verdict}
use Rattle.report_words.specs.declared.event.Verdict.TheVariants as read_verdict

abbrev pub short_count : How → Deed
short_count (how.Read create) = read_deed.Count kind.Read create
short_count (how.Write read create) =
    read_deed.Count (if read then kind.ReadWrite else kind.Write) create
short_count how.Exec = read_deed.Count kind.Exec false

abbrev pub short_set : Option (List ℕ) → Deed
short_set None = read_deed.RemoveAttr
short_set (Some bytes) = read_deed.SetAttr

-- posts and waits are in no journal of an inode
abbrev pub short_deed : model_deed.Deed → Deed
short_deed deed.Birth = read_deed.Birth
short_deed (deed.Count how) = short_count how
short_deed (deed.Check file func action rules) = read_deed.Check file
short_deed (deed.Take file) = read_deed.Take file
short_deed (deed.Chunk file) = read_deed.Chunk file
short_deed (deed.Finish file) = read_deed.Finish file
short_deed (deed.Read file from len) = read_deed.Read file from len
short_deed (deed.Write file from bytes) = read_deed.Write file from (length bytes)
short_deed (deed.Trunc file len) = read_deed.Trunc file len
short_deed (deed.SetAttr name bytes admin) = short_set bytes
short_deed (deed.SetMeta change) = read_deed.SetMeta
short_deed (deed.Close file) = read_deed.Close file
short_deed (deed.CloseTake file) = read_deed.CloseTake file
short_deed (deed.CloseChunk file) = read_deed.CloseChunk file
short_deed (deed.CloseFinish file) = read_deed.CloseFinish file
short_deed (deed.Post sem) = read_deed.Birth
short_deed (deed.Wait sem) = read_deed.Birth

abbrev pub short_placed : Option model_placed.Placed → Placed
short_placed None = read_placed.NotMeasured
short_placed (Some (placed.Added p)) = read_placed.Added
short_placed (Some (placed.Already p)) = read_placed.Already

-- the place of the entry that a grant names, or 0
abbrev pub short_entry : Option model_placed.Placed → ℕ
short_entry None = 0
short_entry (Some (placed.Added p)) = p
short_entry (Some (placed.Already p)) = p

abbrev pub short_verdict : Option model_verdict.Verdict → Verdict
short_verdict None = read_verdict.NotAppraised
short_verdict (Some verdict.Pass) = read_verdict.Pass
short_verdict (Some (verdict.Deny cause)) = read_verdict.Deny

abbrev pub short_grant : model_grant.Grant → Grant
short_grant g = record {
  entry = short_entry g.placed;
  placed = short_placed g.placed;
  verdict = short_verdict g.verdict;
  admitted = g.admitted;
  labelled = g.labelled;
}

-- `Nothing` is the outcome of no event
abbrev pub short_told : model_told.Told → Outcome
short_told (told.Image image) = outcome.Born
short_told told.Held = outcome.Held
short_told told.NotFound = outcome.NotFound
short_told told.TextBusy = outcome.TextBusy
short_told told.Quiet = outcome.Quiet
short_told (told.OpenWriters place) = outcome.OpenWriters place
short_told (told.ToMToU place) = outcome.ToMToU place
short_told told.Begun = outcome.Begun
short_told (told.Grant grant) = outcome.Granted (short_grant grant)
short_told told.More = outcome.More
short_told told.Last = outcome.Last
short_told (told.Read n digest) = outcome.Bytes n
short_told told.Done = outcome.Done
short_told told.TooBig = outcome.TooBig
short_told told.EvmName = outcome.EvmName
short_told told.NotAdmin = outcome.NotAdmin
short_told told.TooLong = outcome.TooLong
short_told told.Invalid = outcome.Invalid
short_told told.NoData = outcome.NoData
short_told (told.Status status) = outcome.Status
short_told told.Dropped = outcome.Dropped
short_told told.LabelledDropped = outcome.LabelledDropped
short_told told.Nothing = outcome.Born

abbrev pub no_line : Span
no_line = record { at = 0; len = 0 }

-- the event without a line
abbrev pub short : model_event.Event → Event
short e = record {
  line = no_line;
  who = e.who;
  deed = short_deed e.deed;
  outcome = short_told e.told;
}

-- an event that was read, without its line
abbrev pub without_line : Event → Event
without_line e = record e { line = no_line }
