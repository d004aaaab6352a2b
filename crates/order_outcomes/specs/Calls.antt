-- What the journals of a run say of one call: the verdict of its grant, and whether the content
-- that it read was in the measurement list.
use Rattle.std.specs.Prelude.{ℕ, ◌==◌, Bool, true, false, ◌&&◌, ◌||◌, not, List, [], ◌∷◌, Option, Some, None, option_map, slice_get, bytes_eq, if◌then◌else◌}
use Rattle.std.specs.Option.{option_or}
use Rattle.report_text.specs.model.events.EndedInode.{EndedInodeValue}
use Rattle.report_text.specs.model.events.NewestFirst.{newest_first}
use Rattle.report_text.specs.model.events.Says.{place_of}
use Rattle.report_text.specs.model.events.State.{content}
use Rattle.report_text.specs.model.events.declared.deed.Deed.{Deed}
use Rattle.report_text.specs.model.events.declared.deed.Deed.TheVariants as deed
use Rattle.report_text.specs.model.events.declared.told.Event.{Event}
use Rattle.report_text.specs.model.events.declared.told.Told.{Told}
use Rattle.report_text.specs.model.events.declared.told.Told.TheVariants as told
use Rattle.report_text.specs.model.events.hashes.Digest.{digest_of}
use Rattle.report_text.specs.model.events.labels.declared.verdict.Verdict.{Verdict}
use Rattle.report_text.specs.model.events.templates.declared.entry.Entry.{Entry}

-- the event is a step of this call of this task, or the birth of an inode
abbrev pub is_by : ℕ → ℕ → Event → Bool
is_by task call e = e.who.task == task && e.who.call == call

-- ---- verdicts

abbrev pub verdict_told : Told → Option Verdict
verdict_told (told.Grant grant) = grant.verdict
verdict_told _ = None

-- the verdict of the call's grant, if the event is one with a verdict
abbrev pub verdict_by : ℕ → ℕ → Event → Option Verdict
verdict_by task call e = if is_by task call e then verdict_told e.told else None

abbrev pub verdict_in : ℕ → ℕ → List Event → Option Verdict
verdict_in task call [] = None
verdict_in task call (e ∷ es) = option_or (verdict_by task call e) (verdict_in task call es)

abbrev pub verdict_of : ℕ → ℕ → List EndedInodeValue → Option Verdict
verdict_of task call [] = None
verdict_of task call (i ∷ is) = option_or (verdict_in task call i.journal) (verdict_of task call is)

-- ---- reads

-- the place in the list that the outcome reports
abbrev pub place_told : Told → Option ℕ
place_told (told.Grant grant) = option_map place_of grant.placed
place_told _ = None

-- the entry is no violation, and its digest is that of the bytes, by the entry's own algorithm
abbrev pub shows : List ℕ → Option Entry → Bool
shows bytes None = false
shows bytes (Some e) =
    not e.violation && bytes_eq e.digest.bytes (digest_of e.digest.algo bytes).bytes

abbrev pub shows_at : List Entry → List ℕ → Option ℕ → Bool
shows_at list bytes None = false
shows_at list bytes (Some place) = shows bytes (slice_get list place)

-- some grant of these events has added or found an entry with the digest of the bytes
abbrev pub is_listed : List Entry → List ℕ → List Event → Bool
is_listed list bytes [] = false
is_listed list bytes (e ∷ before) =
    is_listed list bytes before || shows_at list bytes (place_told e.told)

abbrev pub is_read : Deed → Bool
is_read (deed.Read file from len) = true
is_read _ = false

-- whether the content was listed when the call read it, if it did so in this journal; newest event
-- first
abbrev pub listed_in : List Entry → ℕ → ℕ → List Event → Option Bool
listed_in list task call [] = None
listed_in list task call (e ∷ before) =
    if is_by task call e && is_read e.deed then Some (is_listed list (content before) before)
    else listed_in list task call before

abbrev pub listed_of : List Entry → ℕ → ℕ → List EndedInodeValue → Option Bool
listed_of list task call [] = None
listed_of list task call (i ∷ is) =
    option_or (listed_in list task call (newest_first i.journal)) (listed_of list task call is)
