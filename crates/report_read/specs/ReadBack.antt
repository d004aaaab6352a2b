-- What is true of the reader: each report of a run is accepted, and read as that run.
use Rattle.std.specs.Prelude.{◌≡◌, ℕ, Bool, ◌+◌, ◌<◌, ◌^◌, List, [], ◌∷◌, length, map, count_by, take, drop, Option, Some, None, Ok, true, false}
use Rattle.std.specs.List.{AllByRecursion, join_with_byte}
use Rattle.hex.specs.Hex.{IsBytes}
use Rattle.report_text.specs.Ranges.{Fits, IsDeed, IsListEntry}
use Rattle.report_text.specs.Report.{entry_words, reply_lines, report_of}
use Rattle.report_text.specs.Words.{event_words}
use Rattle.report_text.specs.model.EndedValue.{EndedTaskValue as EndedTask, EndedValue as Ended}
use Rattle.report_text.specs.model.events.EndedInode.{EndedInodeValue as EndedInode}
use Rattle.report_text.specs.model.events.Inode.{Inode}
use Rattle.report_text.specs.model.events.Legal.{Follows, Legal}
use Rattle.report_text.specs.model.events.NewestFirst.{newest_first}
use Rattle.report_text.specs.model.events.declared.deed.Change.{Change}
use Rattle.report_text.specs.model.events.declared.deed.Change.TheVariants as change
use Rattle.report_text.specs.model.events.declared.deed.Deed.{Deed}
use Rattle.report_text.specs.model.events.declared.deed.Deed.TheVariants as deed
use Rattle.report_text.specs.model.events.declared.told.Event.{Event as ModelEvent}
use Rattle.report_text.specs.model.events.declared.told.Told.{Told}
use Rattle.report_text.specs.model.events.declared.told.Told.TheVariants as told
use Rattle.report_text.specs.model.events.meta.declared.measurement.Template.{Template}
use Rattle.report_text.specs.model.events.meta.declared.measurement.Bank.TheVariants.{Sha1, Sha256}
use Rattle.report_text.specs.model.registers.Banks.{register}
use Rattle.report_text.specs.model.registers.declared.banks.Banks.{Banks}
use Rattle.report_text.specs.model.events.templates.Digests.{template_digest}
use Rattle.report_text.specs.model.events.templates.declared.entry.Entry.{Entry}
use Rattle.report_text.specs.model.events.templates.declared.entry.Placed.{Placed}
use Rattle.report_text.specs.model.events.templates.declared.entry.Placed.TheVariants as placed
use Rattle.report_text.specs.model.events.meta.declared.appraisal.EvmStatus.TheVariants as status
use Rattle.report_text.specs.model.steps.declared.reply.Reply.{Reply as Answer}
use Rattle.report_text.specs.model.steps.declared.reply.Reply.TheVariants as reply
use Rattle.report_text.specs.model.events.forms.Tokens.{is_filled}
use Rattle.report_text.specs.model.events.hashes.Digest.{HasDigestSize}
use Rattle.report_text.specs.model.events.hashes.declared.digest.Digest.{Digest}
use Rattle.report_text.specs.model.events.templates.xattrs.Attrs.{Pair}
use Rattle.report_text.specs.model.rules.declared.cell.RuleEntry.{RuleEntry}
use Rattle.report_words.specs.declared.event.Event.{Event}
use Rattle.report_words.specs.declared.event.Span.{Span}
use Rattle.report_lines.specs.declared.report.Reply.{Reply}
use Rattle.report_draft.specs.Draft.{entry_fits, entry_of}
use Rattle.report_words.specs.Forms.{first_words}
use Rattle.report_lines.specs.Lines.{event_of}
use Rattle.report_read.specs.Read.{reports_of}
use Rattle.report_lines.specs.Report.{InodeValue, ReportValue, TaskValue}
use Rattle.report_read.specs.Short.{short, without_line}

-- the bytes of a range of the text
abbrev pub text_at : List ℕ → Span → List ℕ
text_at text line = take line.len (drop line.at text)

-- the report is that of the run, whose text this is
pub record IsReadOf (text : List ℕ) (r : ReportValue) (e : Ended) : Type 0 where
  pub entries : map (text_at text) r.entries ≡ map (λ x. join_with_byte 32 (entry_words x)) e.list
  pub events : map (λ (i : InodeValue). map without_line i.events) r.inodes
      ≡ map (λ (i : EndedInode). map short i.journal) e.inodes
  pub writers : map (λ (i : InodeValue). i.head.writers) r.inodes
      ≡ map (λ (i : EndedInode). i.writers) e.inodes
  pub readers : map (λ (i : InodeValue). i.head.readers) r.inodes
      ≡ map (λ (i : EndedInode). i.readers) e.inodes
  pub execs : map (λ (i : InodeValue). i.head.execs) r.inodes
      ≡ map (λ (i : EndedInode). i.execs) e.inodes
  pub done : map (λ (t : TaskValue). t.done) r.tasks ≡ map (λ (t : EndedTask). t.done) e.tasks
  pub replies : map (λ (t : TaskValue). map (λ (y : Reply). text_at text y.line) t.replies) r.tasks
      ≡ map (λ (t : EndedTask). map (join_with_byte 32) (reply_lines 0 t.replies)) e.tasks

-- the entry that an event names is in the list
abbrev pub NamesEntry : ℕ → Event → Type 0
NamesEntry entries e = entry_fits entries (entry_of e.outcome) ≡ true

abbrev pub IsSmallChange : Change → Type 0
IsSmallChange (change.Mode mode) = mode < 2 ^ 16
IsSmallChange (change.Owner uid gid) = (uid < 2 ^ 32) × (gid < 2 ^ 32)

abbrev pub IsSmallValue : Option (List ℕ) → Type 0
IsSmallValue None = Unit {0}
IsSmallValue (Some bytes) = length bytes < 2 ^ 32

-- the numbers of the deed are below 2^32, or have the ranges of their types
abbrev pub IsSmallDeed : Deed → Type 0
IsSmallDeed (deed.Check file func action rules) =
    (file < 2 ^ 32) × (action.pcr < 24) × (rules < 2 ^ 32)
IsSmallDeed (deed.Take file) = file < 2 ^ 32
IsSmallDeed (deed.Chunk file) = file < 2 ^ 32
IsSmallDeed (deed.Finish file) = file < 2 ^ 32
IsSmallDeed (deed.Read file from len) = (file < 2 ^ 32) × (from < 2 ^ 32) × (len < 2 ^ 32)
IsSmallDeed (deed.Write file from bytes) =
    (file < 2 ^ 32) × (from < 2 ^ 32) × (length bytes < 2 ^ 32)
IsSmallDeed (deed.Trunc file len) = (file < 2 ^ 32) × (len < 2 ^ 32)
IsSmallDeed (deed.SetAttr name bytes admin) = IsSmallValue bytes
IsSmallDeed (deed.SetMeta change) = IsSmallChange change
IsSmallDeed (deed.Close file) = file < 2 ^ 32
IsSmallDeed (deed.CloseTake file) = file < 2 ^ 32
IsSmallDeed (deed.CloseChunk file) = file < 2 ^ 32
IsSmallDeed (deed.CloseFinish file) = file < 2 ^ 32
IsSmallDeed _ = Unit {0}

abbrev pub IsSmallPlaced : Option Placed → Type 0
IsSmallPlaced None = Unit {0}
IsSmallPlaced (Some (placed.Added place)) = place < 2 ^ 32
IsSmallPlaced (Some (placed.Already place)) = place < 2 ^ 32

abbrev pub IsSmallTold : Told → Type 0
IsSmallTold (told.OpenWriters place) = place < 2 ^ 32
IsSmallTold (told.ToMToU place) = place < 2 ^ 32
IsSmallTold (told.Grant grant) = IsSmallPlaced grant.placed
IsSmallTold (told.Read n digest) = n < 2 ^ 32
IsSmallTold _ = Unit {0}

pub record IsSmall (e : ModelEvent) : Type 0 where
  pub task : e.who.task < 2 ^ 32
  pub call : e.who.call < 2 ^ 32
  pub step : e.who.step < 2 ^ 32
  pub deed : IsSmallDeed e.deed
  pub told : IsSmallTold e.told

-- the line of an event that a legal journal may have after these, as a report prints it, is read
-- as that event
abbrev pub EventLinesAreRead : Type 0
EventLinesAreRead =
    (default : Template) (grows : Bool) (inode : Inode) (before : List ModelEvent) (e : ModelEvent)
    (line : Span) → length before < 2 ^ 32 → Follows inode before e.who e.deed e.told
    → IsDeed e.deed → IsSmall e
    → event_of (length before) line
    (first_words (join_with_byte 32 (event_words default grows (length before) e)))
    ≡ Some (record (short e) { line = line })

-- an entry whose numbers and bytes have the ranges of their types
pub record IsShownEntry (e : Entry) : Type 0 where
  pub entry : IsListEntry e
  pub size : length (template_digest e Sha1).bytes ≡ 20
  pub bytes : IsBytes (template_digest e Sha1).bytes

-- each register has as many bytes as its bank's digests
abbrev pub AreRegisters : Banks → Type 0
AreRegisters banks =
    (pcr : ℕ) → pcr < 24
    → (length (register banks Sha1 pcr) ≡ 20) × IsBytes (register banks Sha1 pcr)
    × (length (register banks Sha256 pcr) ≡ 32) × IsBytes (register banks Sha256 pcr)

-- whether a reply is `ok`
abbrev pub is_ok : Answer → Bool
is_ok reply.Done = true
is_ok (reply.Bytes n digest) = true
is_ok _ = false

-- a reply whose numbers and bytes have the ranges of their types, with the SHA-256 of a read; no
-- change is refused for the statuses `pass` and `unknown`
abbrev pub IsShownReply : Answer → Type 0
IsShownReply (reply.Bytes n digest) =
    (n < 2 ^ 32) × (length digest.bytes ≡ 32) × IsBytes digest.bytes
IsShownReply (reply.Status status.Pass) = ⊥
IsShownReply (reply.Status status.Unknown) = ⊥
IsShownReply _ = Unit {0}

abbrev pub IsShownTask : EndedTask → Type 0
IsShownTask t = (length t.replies < 2 ^ 32) × AllByRecursion IsShownReply t.replies

-- the step of a rule has small numbers
abbrev pub IsShownRule : RuleEntry → Type 0
IsShownRule r = (r.who.task < 2 ^ 32) × (r.who.call < 2 ^ 32) × (r.who.step < 2 ^ 32)

abbrev pub IsShownForce : Option Digest → Type 0
IsShownForce None = Unit {0}
IsShownForce (Some digest) = HasDigestSize digest × IsBytes digest.bytes

-- an attribute has a name, and its value is bytes
abbrev pub IsShownAttr : Pair → Type 0
IsShownAttr pair = (is_filled pair.0 ≡ true) × IsBytes pair.1

-- an inode with a legal journal, whose numbers and bytes have the ranges of their types; its events
-- name entries of a list of this size
pub record IsShownInode (size : ℕ) (i : EndedInode) : Type 0 where
  pub inode : Inode
  pub legal : Legal inode (newest_first i.journal)
  pub small : AllByRecursion IsSmall i.journal
  pub entries : AllByRecursion (λ (e : ModelEvent). NamesEntry size (short e)) i.journal
  pub few_events : length i.journal < 2 ^ 32
  pub force : IsShownForce i.force
  pub attrs : AllByRecursion IsShownAttr i.attrs
  pub few_attrs : length i.attrs < 2 ^ 32
  pub writers : i.writers < 2 ^ 32
  pub readers : i.readers < 2 ^ 32
  pub execs : i.execs < 2 ^ 32

-- a run whose report can be read: its journals are legal, and its numbers and bytes have the ranges
-- of their types
pub record IsReadable (e : Ended) : Type 0 where
  pub fits : Fits e
  pub few_entries : length e.list < 2 ^ 32
  pub few_violations : count_by (λ x. x.violation) e.list < 2 ^ 32
  pub entries : AllByRecursion IsShownEntry e.list
  pub registers : AreRegisters e.banks
  pub few_rules : e.base + length e.rules < 2 ^ 32
  pub rules : AllByRecursion IsShownRule e.rules
  pub few_inodes : length e.inodes < 2 ^ 32
  pub inodes : AllByRecursion (IsShownInode (length e.list)) e.inodes
  pub few_tasks : length e.tasks < 2 ^ 32
  pub tasks : AllByRecursion IsShownTask e.tasks

-- the text that `report` gives of such a run is accepted, and read as that run
abbrev pub ReportIsRead : Type 0
ReportIsRead =
    (e : Ended) → IsReadable e
    → (r : ReportValue) × (reports_of 0 (report_of e) ≡ Ok (r ∷ []))
    × IsReadOf (report_of e) r e
