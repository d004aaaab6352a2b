-- The parts of which a page is made: the program's own bytes, numbers, texts of the report, and the
-- pieces of drawings.
use Rattle.std.specs.Prelude.{◌≡◌, ◌==◌, ℕ, nat_lt, List, [], ◌∷◌, ◌++◌, codes, if◌then◌else◌}
use Rattle.std.specs.List.{flat_map}
use Rattle.view_page.specs.Pieces.{bytes_of as piece_bytes}
use Rattle.view_page.specs.declared.own.Side.{Side}
use Rattle.view_page.specs.declared.own.Side.TheVariants as side
use Rattle.view_page.specs.declared.pieces.Piece.TheVariants as piece
use Rattle.view_page.specs.Html.{frame_bytes, section_bytes, table_bytes}
use Rattle.view_page.specs.Look.{legend, style}
use Rattle.view_page.specs.Told.{overview_bytes, told_bytes}
use Rattle.view_page.specs.declared.part.Part.{Part}
use Rattle.view_page.specs.declared.part.Part.TheVariants as part

-- what the identifiers of a report begin with
abbrev pub side_bytes : Side → List ℕ
side_bytes side.Alone = []
side_bytes side.First = codes "a-"
side_bytes side.Second = codes "b-"

abbrev pub bytes_of : List ℕ → Part → List ℕ
bytes_of text (part.Frame f) = frame_bytes f
bytes_of text (part.Section s) = section_bytes s
bytes_of text (part.Table t) = table_bytes t
bytes_of text (part.Told t) = told_bytes t
bytes_of text (part.Overview o) = overview_bytes o
bytes_of text (part.Side s) = side_bytes s
bytes_of text part.Style = style
bytes_of text part.Legend = legend
bytes_of text (part.Number n) = piece_bytes text (piece.Number n)
bytes_of text (part.Text span) = piece_bytes text (piece.Text span)
bytes_of text (part.Drawn p) = piece_bytes text p

-- the bytes of these parts, with the texts of this report
unfoldable pub page_of : List ℕ → List Part → List ℕ
page_of text parts = flat_map (bytes_of text) parts

-- the part after a number: this one after 1, and else the other
abbrev pub by_count : ℕ → Part → Part → Part
by_count n one many = if n == 1 then one else many

-- how many there are beyond what is shown, between these parts
abbrev pub more : Part → ℕ → Part → List Part
more before n after = if nat_lt 0 n then before ∷ part.Number n ∷ after ∷ [] else []

-- to a text, the bytes of these parts were appended, which made `new` of it
pub record Pushed (text out new : List ℕ) (parts : List Part) : Type 0 where
  pub is : new ≡ out ++ page_of text parts
