-- The list in a page: its entries, each with a link to the event that added it.
use Rattle.std.specs.Prelude.{ℕ, ◌+◌, ◌==◌, nat_lt, Bool, true, false, List, [], ◌∷◌, ◌++◌, length, slice_get, Option, Some, None, if◌then◌else◌}
use Rattle.std.specs.List.{list_all}
use Rattle.view_page.specs.Pieces.{text_at}
use Rattle.view_page.specs.declared.own.Side.{Side}
use Rattle.view_page.specs.journals.reading.words.declared.event.Span.{Span}
use Rattle.view_plan.specs.Order.{counted}
use Rattle.view_plan.specs.Plan.{is_drawn}
use Rattle.view_page.specs.Words.{after_word, cut, first_word}
use Rattle.view_page.specs.declared.html.Table.TheVariants as table
use Rattle.view_page.specs.declared.part.Part.{Part}
use Rattle.view_page.specs.declared.part.Part.TheVariants as part
use Rattle.view_plan.specs.declared.plan.Shown.{Shown}
use Rattle.view_plan.specs.declared.slots.At.{At}

-- the words of a line, counted from 0
abbrev pub word_1 : List ℕ → Span → Span
word_1 text line = first_word text (after_word text line)

abbrev pub word_2 : List ℕ → Span → Span
word_2 text line = word_1 text (after_word text line)

abbrev pub word_3 : List ℕ → Span → Span
word_3 text line = word_2 text (after_word text line)

abbrev pub word_4 : List ℕ → Span → Span
word_4 text line = word_3 text (after_word text line)

-- the entry of a violation has a template digest of zeros
abbrev pub is_zeros : List ℕ → Bool
is_zeros digits = list_all (λ b. b == 48) digits

abbrev pub is_violation : List ℕ → Span → Bool
is_violation text line = is_zeros (text_at text (word_1 text line))

-- ---- a row

-- a link to an event
abbrev pub link : Side → At → List Part
link side at =
    part.Table table.Link ∷ part.Side side ∷ part.Table table.I ∷ part.Number at.inode
    ∷ part.Table table.E ∷ part.Number at.place ∷ part.Table table.LinkIs
    ∷ part.Number at.inode ∷ part.Table table.LinkPlace ∷ part.Number at.place
    ∷ part.Table table.LinkEnd ∷ []

abbrev pub named : At → List Part
named at =
    part.Table table.Inode ∷ part.Number at.inode ∷ part.Table table.LinkPlace
    ∷ part.Number at.place ∷ []

-- a link to the event if the page draws it, else its inode and place
abbrev pub event : Side → List Shown → At → List Part
event side shown at = if is_drawn at shown then link side at else named at

abbrev pub said : Span → List Part
said span = part.Table table.Said ∷ part.Text span ∷ part.Table table.SpanEnd ∷ []

-- the event, and its line
abbrev pub by_event : List ℕ → Side → List Shown → At → List Part
by_event text side shown at =
    event side shown at ++ said (cut 80 (after_word text at.line))

-- who added the entry at this place; the first one is there from the start
abbrev pub by_added : List ℕ → Side → List Shown → Option At → List Part
by_added text side shown (Some at) = by_event text side shown at
by_added text side shown None = part.Table table.ByNone ∷ []

abbrev pub by : List ℕ → Side → List Shown → ℕ → Option At → List Part
by text side shown p at =
    if p == 0 then part.Table table.Boot ∷ [] else by_added text side shown at

-- the digest of the file, or that the entry is a violation
abbrev pub digest : Bool → Span → List Part
digest true d = part.Table table.Violation ∷ []
digest false d =
    part.Table table.TitleCell ∷ part.Text (cut 1024 d) ∷ part.Table table.Shown
    ∷ part.Text (cut 23 d) ∷ []

abbrev pub row_is : Bool → Part
row_is true = part.Table table.RowViolates
row_is false = part.Table table.RowIs

abbrev pub row_head : List ℕ → Side → Bool → ℕ → Span → List Part
row_head text side violates p line =
    part.Table table.Row ∷ part.Side side ∷ part.Table table.Entry ∷ part.Number p
    ∷ row_is violates ∷ part.Number p ∷ part.Table table.Cell
    ∷ part.Text (cut 80 (first_word text line)) ∷ part.Table table.Cell
    ∷ part.Text (cut 80 (word_2 text line)) ∷ []

abbrev pub row_name : List ℕ → Span → List Part
row_name text line =
    part.Table table.HexCell ∷ part.Text (cut 80 (word_4 text line)) ∷ part.Table table.Cell ∷ []

abbrev pub row : List ℕ → Side → List Shown → Bool → ℕ → Option At → Span → List Part
row text side shown violates p at line =
    row_head text side violates p line
    ++ digest violates (word_3 text line)
    ++ row_name text line
    ++ by text side shown p at
    ++ part.Table table.RowEnd ∷ []

-- ---- the rows

-- of long lists the first 50 are shown, and the first so many of those that are marked
abbrev pub first_shown : ℕ
first_shown = 50

abbrev pub is_shown : ℕ → ℕ → ℕ → Bool → Bool
is_shown most place marks marked =
    if nat_lt place first_shown then true else (if marked then nat_lt marks most else false)

abbrev pub most_violations : ℕ
most_violations = 150

abbrev pub joined : Option (Option At) → Option At
joined (Some at) = at
joined None = None

-- the row at a place, after so many violations, if it is shown
abbrev pub row_by : Bool → List ℕ → Side → List Shown → Bool → ℕ → Option At → Span → List Part
row_by true text side shown violates p at line = row text side shown violates p at line
row_by false text side shown violates p at line = []

abbrev pub row_at : List ℕ → Side → List Shown → List (Option At) → ℕ → ℕ → Span → List Part
row_at text side shown added marks p line =
    row_by (is_shown most_violations p marks (is_violation text line)) text side shown
    (is_violation text line) p (joined (slice_get added p)) line

-- the rows of these entries, the first of which is at this place, after so many violations
abbrev pub rows_from : List ℕ → Side → List Shown → List (Option At) → ℕ → ℕ → List Span
    → List Part
rows_from text side shown added marks p [] = []
rows_from text side shown added marks p (line ∷ lines) =
    row_at text side shown added marks p line
    ++ rows_from text side shown added (counted (is_violation text line) marks) (p + 1) lines

abbrev pub hidden : ℕ → List Part
hidden n =
    if nat_lt first_shown n
    then part.Table table.Hidden ∷ part.Number n ∷ part.Table table.HiddenEnd ∷ [] else []

-- the list, with the events that added its entries
abbrev pub entries : List ℕ → Side → List Shown → List (Option At) → List Span → List Part
entries text side shown added lines =
    part.Table table.List ∷ []
    ++ rows_from text side shown added 0 0 lines
    ++ part.Table table.ListEnd ∷ []
    ++ hidden (length lines)
