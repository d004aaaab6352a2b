-- The places of a journal that are drawn: all of a short journal, else windows around what is of
-- interest.
use Rattle.std.specs.Prelude.{ℕ, ◌+◌, ◌-◌, ◌≤◌, ◌==◌, nat_le, min, max, Bool, true, false, List, [], ◌∷◌, ◌++◌, length, if◌then◌else◌}
use Rattle.report_read.specs.words.declared.event.Event.{Event}
use Rattle.view_journal.specs.declared.window.Growth.{Growth}
use Rattle.view_journal.specs.declared.window.Window.{Window}
use Rattle.view_journal.specs.Notes.{is_marked}

-- a journal of at most as many events is drawn whole, and no more events of a longer one are drawn
abbrev pub most_drawn : ℕ
most_drawn = 120

-- so many places are drawn on either side of one that is of interest
abbrev pub near : ℕ
near = 8

abbrev pub whole : ℕ → List Window
whole n = if n == 0 then [] else record { first = 0; last = n - 1 } ∷ []

-- the window around a place of a journal whose last place is this
abbrev pub around : ℕ → ℕ → Window
around last place = record {
  first = min (place - near) last;
  last = min (place + near) last;
}

abbrev pub width : Window → ℕ
width w = (w.last + 1) - w.first

-- the window that reaches to the end of both
abbrev pub joined : Window → Window → Window
joined w v = record { first = w.first; last = max w.last v.last }

-- no window is joined any more
abbrev pub closed : Growth → Growth
closed g = record { window = g.window; used = g.used; more = false; parted = false }

-- the last window becomes w if at most so many places are used then
abbrev pub grown_to : ℕ → Growth → Window → ℕ → Bool → Growth
grown_to most g w used parted =
    if nat_le used most then record { window = w; used = used; more = true; parted = parted }
    else closed g

-- windows that meet, or have at most two places between them, are one
abbrev pub grow_open : ℕ → Growth → Window → Growth
grow_open most g v =
    if nat_le v.first (g.window.last + 2)
    then grown_to most g (joined g.window v)
    (g.used + ((joined g.window v).last - g.window.last)) false
    else grown_to most g v (g.used + width v) true

abbrev pub grow : ℕ → Growth → Window → Growth
grow most g v = if g.more then grow_open most g v else closed g

-- the windows from the last one on, with windows around these places
abbrev pub grown : ℕ → ℕ → Growth → List ℕ → List Window
grown most last g [] = g.window ∷ []
grown most last g (p ∷ ps) =
    if (grow most g (around last p)).parted
    then g.window ∷ grown most last (grow most g (around last p)) ps
    else grown most last (grow most g (around last p)) ps

-- the window around the birth
abbrev pub first_window : ℕ → Growth
first_window last = record {
  window = around last 0;
  used = width (around last 0);
  more = true;
  parted = false;
}

abbrev pub marked_from : ℕ → List Event → List ℕ
marked_from place [] = []
marked_from place (e ∷ es) =
    if is_marked e then place ∷ marked_from (place + 1) es else marked_from (place + 1) es

-- the places of interest after the birth: the marked events, and the last event
abbrev pub of_interest : List Event → List ℕ
of_interest journal = marked_from 0 journal ++ (length journal - 1) ∷ []

-- the windows around the birth and the places of interest of a journal whose last place is this
abbrev pub windows_around : ℕ → ℕ → List ℕ → List Window
windows_around most last places = grown most last (first_window last) places

-- the windows of a journal, in order
abbrev pub windows : ℕ → List Event → List Window
windows most journal =
    if nat_le (length journal) most then whole (length journal)
    else windows_around most (length journal - 1) (of_interest journal)

-- the windows come one after another, from this place on
abbrev pub AreWindows : ℕ → List Window → Type 0
AreWindows next [] = Unit {0}
AreWindows next (w ∷ ws) =
    (next ≤ w.first) × (w.first ≤ w.last) × AreWindows (w.last + 1) ws
