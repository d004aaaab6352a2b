-- The pieces of which a page is made: the program's own bytes, numbers, and texts of the report.
use Rattle.std.specs.Prelude.{ℕ, suc, ◌-◌, ◌==◌, nat_eq, Bool, true, false, List, [], ◌∷◌, take, drop, codes, if◌then◌else◌}
use Rattle.std.specs.Cmp.Lexicographic.{pointwise}
use Rattle.std.specs.List.{flat_map}
use Rattle.view_journal.specs.declared.kinds.Mark.{Mark}
use Rattle.view_journal.specs.reading.words.declared.event.Span.{Span}
use Rattle.view_journal.specs.reading.reports.Numerals.{numeral}
use Rattle.view_page.specs.Escape.{escaped}
use Rattle.view_page.specs.Own.{own_bytes}
use Rattle.view_page.specs.declared.own.Own.TheVariants as own
use Rattle.view_page.specs.declared.pieces.Piece.{Piece}
use Rattle.view_page.specs.declared.pieces.Piece.TheVariants as piece

-- the range of the text, as far as the text reaches
abbrev pub text_at : List ℕ → Span → List ℕ
text_at text span = take span.len (drop span.at text)

-- how many bytes are before the first space
abbrev pub word_len : List ℕ → ℕ
word_len [] = 0
word_len (b ∷ bytes) = if b == 32 then 0 else suc (word_len bytes)

abbrev pub first_word : List ℕ → List ℕ
first_word line = take (word_len line) line

-- the word after so many spaces
abbrev pub word_at : ℕ → List ℕ → List ℕ
word_at spaces [] = []
word_at spaces (b ∷ bytes) =
    if spaces == 0 then first_word (b ∷ bytes)
    else word_at (if b == 32 then spaces - 1 else spaces) bytes

-- the outcome in an event's line, which follows the first sign ` = `
abbrev pub outcome_in : List ℕ → List ℕ
outcome_in [] = []
outcome_in (b ∷ bytes) =
    if pointwise nat_eq (take 3 (b ∷ bytes)) (codes " = ") then drop 3 (b ∷ bytes)
    else outcome_in bytes

abbrev pub bytes_of : List ℕ → Piece → List ℕ
bytes_of text (piece.Own o) = own_bytes o
bytes_of text (piece.Number n) = numeral n
bytes_of text (piece.Text span) = escaped (text_at text span)
bytes_of text (piece.Word span spaces) = escaped (word_at spaces (text_at text span))
bytes_of text (piece.Told span spaces) = escaped (word_at spaces (outcome_in (text_at text span)))

-- the bytes of these pieces, with the texts of this report
abbrev pub page_of : List ℕ → List Piece → List ℕ
page_of text pieces = flat_map (bytes_of text) pieces

-- the piece is of the program's own bytes
abbrev pub is_own : Piece → Bool
is_own (piece.Own o) = true
is_own _ = false

-- the marks among pieces, in order
abbrev pub marks_in : List Piece → List Mark
marks_in [] = []
marks_in (piece.Own (own.Shape m) ∷ rest) = m ∷ marks_in rest
marks_in (p ∷ rest) = marks_in rest
