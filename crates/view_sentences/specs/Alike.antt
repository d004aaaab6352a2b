-- How the journals of an inode compare in two runs of one script: which events are told alike, where
-- the journals part, and which events the other run lacks or tells otherwise.
use Rattle.std.specs.Prelude.{ℕ, ◌+◌, ◌==◌, nat_le, nat_lt, not, ◌&&◌, Bool, true, false, List, [], ◌∷◌, length, slice_get, Option, Some, None, if◌then◌else◌}
use Rattle.std.specs.List.{list_any}
use Rattle.view_page.specs.Pieces.{text_at}
use Rattle.view_page.specs.journals.declared.window.Window.{Window}
use Rattle.view_page.specs.journals.reading.words.declared.event.Deed.{Deed}
use Rattle.view_page.specs.journals.reading.words.declared.event.Deed.TheVariants as deed
use Rattle.view_page.specs.journals.reading.words.declared.event.Event.{Event}
use Rattle.view_page.specs.journals.reading.words.declared.event.Outcome.{Outcome}
use Rattle.view_page.specs.journals.reading.words.declared.event.Outcome.TheVariants as outcome

-- ---- lines without numbers

abbrev pub is_digit : ℕ → Bool
is_digit b = nat_le 48 b && nat_le b 57

-- the bytes that aren't digits
abbrev pub letters : List ℕ → List ℕ
letters [] = []
letters (b ∷ bytes) = if is_digit b then letters bytes else b ∷ letters bytes

abbrev pub same_bytes : List ℕ → List ℕ → Bool
same_bytes [] [] = true
same_bytes (x ∷ xs) (y ∷ ys) = if x == y then same_bytes xs ys else false
same_bytes _ _ = false

abbrev pub same_letters : List ℕ → List ℕ → Bool
same_letters a b = same_bytes (letters a) (letters b)

-- ---- events that are told alike

-- the place of the count of a deed's file
abbrev pub file_of : Deed → Option ℕ
file_of (deed.Check file) = Some file
file_of (deed.Take file) = Some file
file_of (deed.Chunk file) = Some file
file_of (deed.Finish file) = Some file
file_of (deed.Read file from len) = Some file
file_of (deed.Write file from len) = Some file
file_of (deed.Trunc file len) = Some file
file_of (deed.Close file) = Some file
file_of (deed.CloseTake file) = Some file
file_of (deed.CloseChunk file) = Some file
file_of (deed.CloseFinish file) = Some file
file_of _ = None

abbrev pub from_of : Deed → ℕ
from_of (deed.Read file from len) = from
from_of (deed.Write file from len) = from
from_of _ = 0

abbrev pub len_of : Deed → ℕ
len_of (deed.Read file from len) = len
len_of (deed.Write file from len) = len
len_of (deed.Trunc file len) = len
len_of _ = 0

abbrev pub bytes_read : Outcome → ℕ
bytes_read (outcome.Bytes n) = n
bytes_read _ = 0

-- the same step of the same call
abbrev pub same_who : Event → Event → Bool
same_who e f =
    e.who.task == f.who.task && (e.who.call == f.who.call && e.who.step == f.who.step)

-- the event that opened the file
abbrev pub opener : List Event → Option ℕ → Option Event
opener journal None = None
opener journal (Some file) = slice_get journal file

abbrev pub same_opener : Option Event → Option Event → Bool
same_opener None None = true
same_opener (Some e) (Some f) = same_who e f
same_opener _ _ = false

-- the same offset and length, and as many bytes were read
abbrev pub same_numbers : Event → Event → Bool
same_numbers e f =
    from_of e.deed == from_of f.deed
    && (len_of e.deed == len_of f.deed && bytes_read e.outcome == bytes_read f.outcome)

-- events of two journals are told alike: the same step did the same to a file that the same step
-- opened, and came to the same, but for places in the journals and in the lists
abbrev pub alike : List ℕ → List Event → List Event → Event → Event → Bool
alike text mine other e f =
    same_who e f
    && (same_opener (opener mine (file_of e.deed)) (opener other (file_of f.deed))
    && (same_numbers e f && same_letters (text_at text e.line) (text_at text f.line)))

-- ---- where journals part

-- the other run lacks the event, or tells it otherwise
abbrev pub differs : List ℕ → List Event → List Event → Event → Bool
differs text mine other e = not (list_any (alike text mine other e) other)

abbrev pub alike_at : List ℕ → List Event → List Event → Event → Option Event → Bool
alike_at text mine other e None = false
alike_at text mine other e (Some f) = alike text mine other e f

-- the first of these places at which the journals aren't told alike
abbrev pub parted_from : List ℕ → List Event → List Event → ℕ → List Event → Option ℕ
parted_from text mine other place [] =
    if nat_lt place (length other) then Some place else None
parted_from text mine other place (e ∷ es) =
    if alike_at text mine other e (slice_get other place)
    then parted_from text mine other (place + 1) es else Some place

-- the first place at which the journals aren't told alike, if there is one
abbrev pub parted : List ℕ → List Event → List Event → Option ℕ
parted text mine other = parted_from text mine other 0 mine

-- ---- the columns that differ

abbrev pub shows : ℕ → Window → Bool
shows place w = nat_le w.first place && nat_le place w.last

-- the place is in one of the windows
abbrev pub is_drawn : List Window → ℕ → Bool
is_drawn ws place = list_any (shows place) ws

-- the event is drawn and differs
abbrev pub is_differing : List ℕ → List Event → List Event → List Window → ℕ → Event → Bool
is_differing text mine other ws place e = is_drawn ws place && differs text mine other e

-- of the events from this place on, the places of those that are drawn and differ
abbrev pub differing_from : List ℕ → List Event → List Event → List Window → ℕ → List Event
    → List ℕ
differing_from text mine other ws place [] = []
differing_from text mine other ws place (e ∷ es) =
    if is_differing text mine other ws place e
    then place ∷ differing_from text mine other ws (place + 1) es
    else differing_from text mine other ws (place + 1) es

-- the drawn places whose events the other run lacks or tells otherwise
abbrev pub differing : List ℕ → List Event → List Event → List Window → List ℕ
differing text mine other ws = differing_from text mine other ws 0 mine
