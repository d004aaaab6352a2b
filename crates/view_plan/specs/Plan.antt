-- Which windows of which journals a page draws.
use Rattle.std.specs.Prelude.{ℕ, ◌-◌, ◌==◌, nat_lt, nat_le, ◌&&◌, Bool, List, [], ◌∷◌, ◌++◌, length, slice_get, Option, Some, None, if◌then◌else◌}
use Rattle.std.specs.List.{list_any}
use Rattle.view_journal.specs.Windows.{width, windows}
use Rattle.view_journal.specs.declared.window.Window.{Window}
use Rattle.view_journal.specs.reading.Report.{InodeValue}
use Rattle.view_journal.specs.reading.words.declared.event.Event.{Event}
use Rattle.view_plan.specs.Sums.{sum_up_to}
use Rattle.view_plan.specs.declared.plan.Shown.{Shown}
use Rattle.view_plan.specs.declared.slots.At.{At}

-- a journal of at most as many events is drawn whole, and of a longer one windows
abbrev pub most_drawn : ℕ
most_drawn = 120

-- a page draws at most as many events
abbrev pub most_places : ℕ
most_places = 3000

-- and shows at most as many inodes
abbrev pub most_sections : ℕ
most_sections = 200

-- ---- the windows of a journal

-- none if it has no event but its birth
abbrev pub windows_of : List Event → List Window
windows_of journal =
    if nat_lt 1 (length journal) && nat_lt (length journal) 4294967296
    then windows most_drawn journal else []

abbrev pub places_from : ℕ → List Window → ℕ
places_from n [] = n
places_from n (w ∷ ws) = places_from (sum_up_to n (width w)) ws

-- how many places the windows have
abbrev pub places_of : List Window → ℕ
places_of ws = places_from 0 ws

-- the windows if there is room for so many places
abbrev pub fitting : ℕ → List Event → List Window
fitting room journal =
    if nat_le (places_of (windows_of journal)) room then windows_of journal else []

abbrev pub room_after : ℕ → List Event → ℕ
room_after room journal = room - places_of (fitting room journal)

-- ---- the windows of a page

abbrev pub shown_of : ℕ → List Window → List Shown
shown_of inode [] = []
shown_of inode (w ∷ ws) = record { inode = inode; window = w } ∷ shown_of inode ws

abbrev pub events_of : Option InodeValue → List Event
events_of (Some i) = i.events
events_of None = []

abbrev pub journal_at : List InodeValue → ℕ → List Event
journal_at inodes n = events_of (slice_get inodes n)

-- the windows of the journals of these numbers, if there is room for so many places
abbrev pub shown_from : ℕ → List InodeValue → List ℕ → List Shown
shown_from room inodes [] = []
shown_from room inodes (n ∷ ns) =
    shown_of n (fitting room (journal_at inodes n))
    ++ shown_from (room_after room (journal_at inodes n)) inodes ns

abbrev pub planned : List InodeValue → List ℕ → List Shown
planned inodes order = shown_from most_places inodes order

-- the windows of an inode
abbrev pub windows_in : ℕ → List Shown → List Window
windows_in inode [] = []
windows_in inode (s ∷ ss) =
    if s.inode == inode then s.window ∷ windows_in inode ss else windows_in inode ss

-- ---- the events that are drawn

abbrev pub covers : At → Shown → Bool
covers at s =
    (s.inode == at.inode && nat_le s.window.first at.place) && nat_le at.place s.window.last

abbrev pub is_drawn : At → List Shown → Bool
is_drawn at ss = list_any (covers at) ss

-- ---- the inodes that are shown

-- how many inodes a page doesn't show
abbrev pub beyond : List ℕ → ℕ
beyond order = length order - most_sections
