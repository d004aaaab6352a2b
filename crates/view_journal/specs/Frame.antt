-- Columns and rows, in whole pixels.
use Rattle.std.specs.Prelude.{ℕ, suc, ◌+◌, ◌-◌, ◌*◌, ◌≤◌, ◌==◌, nat_le, nat_lt, List, [], ◌∷◌, Option, Some, None, if◌then◌else◌}
use Rattle.view_journal.specs.declared.frame.Extent.{Extent}
use Rattle.view_journal.specs.declared.window.Window.{Window}
use Rattle.view_journal.specs.Windows.{width}

-- ---- columns

-- the width of an event's column, of a gap between windows, and of the margin with the names
abbrev pub column : ℕ
column = 30

abbrev pub gap : ℕ
gap = 90

abbrev pub margin : ℕ
margin = 96

-- no drawing is wider
abbrev pub widest : ℕ
widest = 4294967296

-- where a window begins, after windows that end at x and before the place `next`
abbrev pub window_start : ℕ → ℕ → Window → ℕ
window_start next x w = if w.first == next then x else x + gap

abbrev pub window_end : ℕ → ℕ → Window → ℕ
window_end next x w = window_start next x w + column * width w

abbrev pub within : ℕ → Option ℕ
within x = if nat_lt x widest then Some x else None

abbrev pub column_from : ℕ → ℕ → List Window → ℕ → Option ℕ
column_from next x [] place = None
column_from next x (w ∷ ws) place =
    if nat_lt place w.first then None
    else if nat_le place w.last
    then within (window_start next x w + column * (place - w.first))
    else if nat_lt (window_end next x w) widest
    then column_from (w.last + 1) (window_end next x w) ws place
    else None

-- the left edge of the column of a place, if the place is drawn
abbrev pub column_of : List Window → ℕ → Option ℕ
column_of ws place = column_from 0 margin ws place

-- the middle of the column whose left edge this is
abbrev pub middle : ℕ → ℕ
middle x = x + 15

-- ---- rows

-- the first row whose last bar ended before `from`, or a new one; `ends` has the end of the last
-- bar of each row
abbrev pub first_free : ℕ → List ℕ → ℕ
first_free from [] = 0
first_free from (e ∷ es) = if nat_lt e from then 0 else suc (first_free from es)

abbrev pub ends_with : ℕ → ℕ → List ℕ → List ℕ
ends_with from to [] = to ∷ []
ends_with from to (e ∷ es) = if nat_lt e from then to ∷ es else e ∷ ends_with from to es

abbrev pub rows_from : List ℕ → List Extent → List ℕ
rows_from ends [] = []
rows_from ends (s ∷ ss) =
    first_free s.from ends ∷ rows_from (ends_with s.from s.to ends) ss

-- the rows of bars, which are given in the order of their beginnings
abbrev pub rows : List Extent → List ℕ
rows spans = rows_from [] spans

-- the bars begin at this place or after it
abbrev pub BeginAfter : ℕ → List Extent → Type 0
BeginAfter from [] = Unit {0}
BeginAfter from (s ∷ ss) = (from ≤ s.from) × BeginAfter from ss

-- the bars are in the order of their beginnings
abbrev pub AreInOrder : List Extent → Type 0
AreInOrder [] = Unit {0}
AreInOrder (s ∷ ss) = BeginAfter s.from ss × AreInOrder ss
