-- Flags above the strips: of the notes of drawn events.
use Rattle.std.specs.Prelude.{ℕ, ◌+◌, ◌*◌, nat_lt, List, [], ◌∷◌, map, take, Option, Some, None, if◌then◌else◌}
use Rattle.std.specs.List.{flat_map}
use Rattle.view_journal.specs.reading.words.declared.event.Event.{Event}
use Rattle.view_journal.specs.declared.column.Column.{Column}
use Rattle.view_layout.specs.declared.flags.Flag.{Flag}
use Rattle.view_layout.specs.declared.flags.Noted.{Noted}
use Rattle.view_journal.specs.declared.frame.Extent.{Extent}
use Rattle.view_journal.specs.declared.items.Guide.{Guide}
use Rattle.view_journal.specs.declared.items.Guide.TheVariants as guide
use Rattle.view_journal.specs.declared.kinds.Note.{Note}
use Rattle.view_journal.specs.declared.kinds.Note.TheVariants as note
use Rattle.view_journal.specs.Frame.{rows}
use Rattle.view_journal.specs.Notes.{notes}

-- a drawing has at most as many flags
abbrev pub most_flags : ℕ
most_flags = 3000

-- the notes of an event whose column begins at x
abbrev pub noted : ℕ → Event → Note → Noted
noted x e n = record { x = x; event = e; note = n }

abbrev pub noted_at : Column → List Noted
noted_at c = map (noted c.x c.event) (notes c.event)

abbrev pub notes_of : List Column → List Noted
notes_of columns = take most_flags (flat_map noted_at columns)

-- ---- their widths

-- how many digits a number is given room for
abbrev pub digits : ℕ → ℕ
digits n =
    if nat_lt n 10 then 1
    else if nat_lt n 100 then 2
    else if nat_lt n 1000 then 3
    else if nat_lt n 10000 then 4
    else if nat_lt n 100000 then 5
    else 10

-- how many characters a flag has; a denial's has room for any cause
abbrev pub characters : Note → ℕ
characters (note.ToMToU p) = 15 + digits p
characters (note.OpenWriters p) = 21 + digits p
characters note.Denied = 22
characters note.Labelled = 8
characters (note.Added p) = 6 + digits p
characters (note.Already p) = 14 + digits p
characters note.Passed = 4

abbrev pub flag_width : Note → ℕ
flag_width n = 7 * characters n + 10

-- a flag stands to the right of its event's guide, with two pixels between flags
abbrev pub flag_extent : Noted → Extent
flag_extent f = record { from = f.x + 15; to = f.x + 15 + flag_width f.note + 2 }

abbrev pub flag_extents : List Noted → List Extent
flag_extents fs = map flag_extent fs

-- ---- their rows, from the lowest up

abbrev pub flag_height : ℕ
flag_height = 17

abbrev pub raised : List Noted → List ℕ → List Flag
raised [] rs = []
raised (f ∷ fs) [] = []
raised (f ∷ fs) (r ∷ rs) =
    record { x = f.x; event = f.event; note = f.note; up = flag_height * (r + 1) }
    ∷ raised fs rs

abbrev pub raised_all : List Noted → List Flag
raised_all fs = raised fs (rows (flag_extents fs))

-- the flags of the events of these columns
abbrev pub flags_of : List Column → List Flag
flags_of columns = raised_all (notes_of columns)

-- ---- their guides

abbrev pub guide_of : Note → Option Guide
guide_of (note.ToMToU p) = Some guide.Violation
guide_of (note.OpenWriters p) = Some guide.Violation
guide_of note.Denied = Some guide.Denial
guide_of (note.Added p) = Some guide.Added
guide_of _ = None
