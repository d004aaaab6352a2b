-- The drawing of an inode in pieces.
use Rattle.std.specs.Prelude.{◌≡◌, ℕ, ◌+◌, ◌==◌, nat_le, min, List, [], ◌∷◌, ◌++◌, map, Option, Some, None, if◌then◌else◌}
use Rattle.std.specs.List.{flat_map}
use Rattle.view_page.specs.journals.declared.items.Area.{Area}
use Rattle.view_page.specs.journals.declared.items.Guide.{Guide}
use Rattle.view_page.specs.journals.declared.items.Guide.TheVariants as guide
use Rattle.view_page.specs.journals.declared.items.Item.{Item}
use Rattle.view_page.specs.journals.declared.items.Item.TheVariants as item
use Rattle.view_page.specs.journals.declared.items.Look.{Look}
use Rattle.view_page.specs.journals.declared.items.Strip.{Strip}
use Rattle.view_page.specs.journals.declared.items.Strip.TheVariants as strip
use Rattle.view_page.specs.journals.declared.kinds.Freshness.{Freshness}
use Rattle.view_page.specs.journals.declared.kinds.Freshness.TheVariants as fresh
use Rattle.view_page.specs.journals.declared.kinds.Mark.{Mark}
use Rattle.view_page.specs.journals.declared.kinds.Mark.TheVariants as mark
use Rattle.view_page.specs.journals.declared.kinds.Note.{Note}
use Rattle.view_page.specs.journals.declared.kinds.Note.TheVariants as note
use Rattle.view_page.specs.journals.declared.window.Window.{Window}
use Rattle.view_page.specs.journals.reading.words.declared.event.Deed.{Deed}
use Rattle.view_page.specs.journals.reading.words.declared.event.Deed.TheVariants as deed
use Rattle.view_page.specs.journals.reading.words.declared.event.Event.{Event}
use Rattle.view_page.specs.journals.reading.words.declared.event.Outcome.{Outcome}
use Rattle.view_page.specs.journals.reading.words.declared.event.Outcome.TheVariants as outcome
use Rattle.view_page.specs.journals.reading.words.declared.event.Placed.{Placed}
use Rattle.view_page.specs.journals.reading.words.declared.event.Placed.TheVariants as placed
use Rattle.view_page.specs.journals.reading.words.declared.event.Span.{Span}
use Rattle.view_page.specs.journals.declared.column.Column.{Column}
use Rattle.view_page.specs.journals.Columns.{columns_of}
use Rattle.view_page.specs.journals.Notes.{mark_of}
use Rattle.view_page.specs.Pieces.{marks_in}
use Rattle.view_layout.specs.Drawing.{Sketch, end_of, highest, items_of, sketch_of}
use Rattle.view_page.specs.journals.Windows.{windows}
use Rattle.view_page.specs.declared.own.Own.{Own}
use Rattle.view_page.specs.declared.own.Own.TheVariants as own
use Rattle.view_page.specs.declared.own.Side.TheVariants as side
use Rattle.view_page.specs.declared.pieces.Piece.{Piece}
use Rattle.view_page.specs.declared.pieces.Piece.TheVariants as piece
use Rattle.view_page.specs.declared.view.View.{View}

-- ---- blocks and lines

abbrev pub block_pieces : Look → Area → List Piece
block_pieces l a =
    piece.Own (own.Block l) ∷ piece.Number a.x ∷ piece.Own own.Y ∷ piece.Number a.y
    ∷ piece.Own own.Width ∷ piece.Number a.width ∷ piece.Own own.Height ∷ piece.Number a.height
    ∷ piece.Own own.Close ∷ []

abbrev pub line_pieces : Guide → ℕ → ℕ → ℕ → List Piece
line_pieces g x up down =
    piece.Own (own.Line g) ∷ piece.Number x ∷ piece.Own own.UpFrom ∷ piece.Number up
    ∷ piece.Own own.DownTo ∷ piece.Number down ∷ piece.Own own.Close ∷ []

-- the words at the line where two journals part, near the lower edge of the drawing
abbrev pub words_pieces : Guide → ℕ → ℕ → List Piece
words_pieces guide.Parting x down =
    piece.Own own.PartingText ∷ piece.Number x ∷ piece.Own own.Y ∷ piece.Number down
    ∷ piece.Own own.PartingWords ∷ []
words_pieces _ x down = []

abbrev pub guide_pieces : Guide → ℕ → ℕ → ℕ → List Piece
guide_pieces g x up down = line_pieces g x up down ++ words_pieces g x down

-- ---- strips

abbrev pub fresh_of : ℕ → Freshness
fresh_of n = if n == 0 then fresh.NotHashed else if n == 1 then fresh.AsHashed else fresh.Written

abbrev pub segment_block : Strip → ℕ → Own
segment_block strip.Content n = own.ContentBlock (fresh_of n)
segment_block s n = if n == 0 then own.ZeroBlock s else own.CountBlock s

-- the word for the content has so much room, or isn't written
abbrev pub room_for : Freshness → ℕ
room_for fresh.NotHashed = 64
room_for fresh.AsHashed = 58
room_for fresh.Written = 124

abbrev pub content_pieces : Freshness → ℕ → ℕ → List Piece
content_pieces f x width =
    if nat_le (room_for f) width
    then piece.Own own.ContentText ∷ piece.Number x ∷ piece.Own (own.ContentWord f) ∷ []
    else []

abbrev pub number_pieces : Strip → ℕ → ℕ → List Piece
number_pieces s x n =
    if n == 0 then []
    else piece.Own (own.CountText s) ∷ piece.Number x ∷ piece.Own own.Is ∷ piece.Number n
    ∷ piece.Own own.TextEnd ∷ []

-- what a segment says: a number, or the word for the content
abbrev pub label_pieces : Strip → ℕ → ℕ → ℕ → List Piece
label_pieces strip.Content x width n = content_pieces (fresh_of n) x width
label_pieces s x width n = number_pieces s x n

abbrev pub segment_pieces : Strip → ℕ → ℕ → ℕ → List Piece
segment_pieces s x width n =
    (piece.Own (segment_block s n) ∷ piece.Number x ∷ piece.Own own.Width ∷ piece.Number width
    ∷ piece.Own own.Close ∷ [])
    ++ label_pieces s x width n

abbrev pub lane_pieces : ℕ → ℕ → List Piece
lane_pieces y task =
    piece.Own own.LaneName ∷ piece.Number y ∷ piece.Own own.TaskIs ∷ piece.Number task
    ∷ piece.Own own.TextEnd ∷ []

-- ---- events

-- a title has at most so many bytes of the report
abbrev pub cut : Span → Span
cut span = record { at = span.at; len = min span.len 1024 }

abbrev pub mark_pieces : View → ℕ → ℕ → ℕ → Span → Mark → List Piece
mark_pieces view place x y line m =
    piece.Own (own.Group view.side) ∷ piece.Number view.inode
    ∷ piece.Own own.Place ∷ piece.Number place ∷ piece.Own own.At ∷ piece.Number x
    ∷ piece.Own own.Comma ∷ piece.Number y ∷ piece.Own own.Title ∷ piece.Text (cut line)
    ∷ piece.Own own.TitleEnd ∷ piece.Own (own.Shape m) ∷ piece.Own own.GroupEnd ∷ []

-- the deed of a violation, or of what wasn't admitted, opened or done
abbrev pub deed_text : Mark → Own
deed_text mark.Violated = own.RedText
deed_text mark.Refused = own.RedText
deed_text mark.NotOpened = own.RedText
deed_text mark.NotDone = own.RedText
deed_text _ = own.DeedText

abbrev pub bytes_read : Outcome → ℕ
bytes_read (outcome.Bytes n) = n
bytes_read _ = 0

abbrev pub range_pieces : ℕ → ℕ → List Piece
range_pieces from len = piece.Number from ∷ piece.Own own.Plus ∷ piece.Number len ∷ []

abbrev pub word_pieces : Span → ℕ → List Piece
word_pieces line spaces = piece.Own own.Space ∷ piece.Word (cut line) spaces ∷ []

-- the offset and the length of a deed, how it opens a file, the function of a check, or the name of
-- an attribute
abbrev pub detail_pieces : Span → Deed → Outcome → List Piece
detail_pieces line (deed.Count k create) o = piece.Own (own.KindWord k) ∷ []
detail_pieces line (deed.Check file) o = word_pieces line 4
detail_pieces line deed.SetAttr o = word_pieces line 3
detail_pieces line deed.RemoveAttr o = word_pieces line 3
detail_pieces line (deed.Read file from len) o = range_pieces from (bytes_read o)
detail_pieces line (deed.Write file from len) o = range_pieces from len
detail_pieces line (deed.Trunc file len) o = piece.Number len ∷ []
detail_pieces line _ _ = []

abbrev pub place_pieces : ℕ → ℕ → ℕ → List Piece
place_pieces x y place =
    piece.Own own.PlaceText ∷ piece.Number x ∷ piece.Own own.Y ∷ piece.Number y
    ∷ piece.Own own.Is ∷ piece.Number place ∷ piece.Own own.TextEnd ∷ []

abbrev pub slant_pieces : ℕ → ℕ → Deed → Mark → List Piece
slant_pieces x y d m =
    piece.Own (deed_text m) ∷ piece.Number x ∷ piece.Own own.Comma ∷ piece.Number y
    ∷ piece.Own own.Slant ∷ piece.Own (own.DeedWord d) ∷ []

abbrev pub axis_pieces : ℕ → ℕ → ℕ → Event → Mark → List Piece
axis_pieces x y place e m =
    place_pieces x y place
    ++ (slant_pieces x y e.deed m
    ++ (detail_pieces e.line e.deed e.outcome ++ piece.Own own.TextEnd ∷ []))

-- ---- flags and gaps

-- the cause follows `deny`, before which a grant may name an entry
abbrev pub cause_of : Placed → ℕ
cause_of placed.NotMeasured = 1
cause_of _ = 3

-- after how many words of an outcome the cause of a denial stands
abbrev pub cause_at : Outcome → ℕ
cause_at (outcome.Granted g) = cause_of g.placed
cause_at outcome.Status = 1
cause_at _ = 0

-- an entry, or the cause of a denial
abbrev pub noted_pieces : Event → Note → List Piece
noted_pieces e (note.ToMToU p) = piece.Number p ∷ []
noted_pieces e (note.OpenWriters p) = piece.Number p ∷ []
noted_pieces e (note.Added p) = piece.Number p ∷ []
noted_pieces e (note.Already p) = piece.Number p ∷ []
noted_pieces e note.Denied = piece.Told (cut e.line) (cause_at e.outcome) ∷ []
noted_pieces e _ = []

abbrev pub banner_pieces : ℕ → ℕ → ℕ → Note → List Piece
banner_pieces x up width n =
    piece.Own (own.FlagBlock n) ∷ piece.Number x ∷ piece.Own own.MinusY ∷ piece.Number up
    ∷ piece.Own own.Width ∷ piece.Number width ∷ piece.Own own.Close
    ∷ piece.Own (own.FlagText n) ∷ piece.Number x ∷ piece.Own own.MinusY ∷ piece.Number up
    ∷ piece.Own own.Is ∷ piece.Own (own.FlagWords n) ∷ []

abbrev pub flag_pieces : ℕ → ℕ → ℕ → Event → Note → List Piece
flag_pieces x up width e n =
    banner_pieces x up width n ++ (noted_pieces e n ++ piece.Own own.TextEnd ∷ [])

abbrev pub gap_pieces : ℕ → ℕ → ℕ → List Piece
gap_pieces x height events =
    piece.Own own.GapGroup ∷ piece.Number x ∷ piece.Own own.GapBlock ∷ piece.Number height
    ∷ piece.Own own.GapText ∷ piece.Number events ∷ piece.Own own.GapEnd ∷ []

-- ---- the drawing

abbrev pub item_pieces : View → Item → List Piece
item_pieces view (item.Block l a) = block_pieces l a
item_pieces view (item.Guide g x up down) = guide_pieces g x up down
item_pieces view (item.StripName s) = piece.Own (own.StripName s) ∷ []
item_pieces view (item.Segment s x width n) = segment_pieces s x width n
item_pieces view (item.LaneName y task) = lane_pieces y task
item_pieces view (item.Mark place x y line m) = mark_pieces view place x y line m
item_pieces view (item.Axis x y place e m) = axis_pieces x y place e m
item_pieces view (item.Flag x up width e n) = flag_pieces x up width e n
item_pieces view (item.Gap x height events) = gap_pieces x height events

abbrev pub items_pieces : View → List Item → List Piece
items_pieces view items = flat_map (item_pieces view) items

-- the size of a drawing: room for a gap or a flag after the last column, and for the axis
abbrev pub head_of : ℕ → ℕ → ℕ → List Piece
head_of end up bottom =
    piece.Own own.Svg ∷ piece.Number (end + 190) ∷ piece.Own own.SvgHeight
    ∷ piece.Number (up + 4 + bottom + 120) ∷ piece.Own own.SvgBox ∷ piece.Number (up + 4)
    ∷ piece.Own own.Space ∷ piece.Number (end + 190) ∷ piece.Own own.Space
    ∷ piece.Number (up + 4 + bottom + 120) ∷ piece.Own own.SvgOpen ∷ []

abbrev pub head : Sketch → List Piece
head s = head_of (end_of s.columns) (highest s.flags) s.bottom

-- the drawing of these parts; `extra` stands before the items
abbrev pub sketch_pieces : View → List Piece → Sketch → List ℕ → List Piece
sketch_pieces view extra s differs =
    head s ++ (extra
    ++ (items_pieces view (items_of s differs view.parts) ++ piece.Own own.SvgEnd ∷ []))

-- the drawing of an inode's journal
abbrev pub inode_pieces : View → List Event → List Window → List ℕ → List Piece
inode_pieces view journal ws differs = sketch_pieces view [] (sketch_of ws journal) differs

-- ---- a file of its own

abbrev pub rules_pieces : List Piece
rules_pieces = piece.Own own.Style ∷ piece.Own own.Rules ∷ piece.Own own.StyleEnd ∷ []

abbrev pub view_alone : ℕ → View
view_alone inode = record { side = side.Alone; inode = inode; parts = None }

-- the windows of a drawing: this range, or those of the journal
abbrev pub windows_or : Option Window → List Event → List Window
windows_or None journal = windows 120 journal
windows_or (Some w) journal = w ∷ []

-- the drawing of a journal as a file
abbrev pub svg_of : ℕ → List Event → Option Window → List Piece
svg_of inode journal range =
    sketch_pieces (view_alone inode) rules_pieces
    (sketch_of (windows_or range journal) journal) []

-- each event that is drawn has one mark, in the order of the columns, and there are no other marks
abbrev pub EachEventHasOneMark : Type 0
EachEventHasOneMark =
    (view : View) (journal : List Event) (ws : List Window) (differs : List ℕ)
    → marks_in (inode_pieces view journal ws differs)
    ≡ map (λ (c : Column). mark_of c.event) (columns_of ws journal)
