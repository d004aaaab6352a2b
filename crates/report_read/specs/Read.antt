-- The reports of a text, or its first bad line.
use Rattle.std.specs.Prelude.{ℕ, ◌+◌, not, ◌&&◌, List, [], ◌∷◌, length, Option, Result, Ok, Err, ok_or, if◌then◌else◌}
use Rattle.report_text.specs.model.events.forms.Lines.{◌>>=◌, lines}
use Rattle.report_text.specs.model.events.forms.Tokens.{is_filled}
use Rattle.report_words.specs.declared.event.Span.{Span}
use Rattle.report_draft.specs.Draft.{Draft, is_over, start, with_words}
use Rattle.report_words.specs.Forms.{first_words}
use Rattle.report_lines.specs.Report.{ReportValue}

-- a line that begins at this index
abbrev pub span_at : ℕ → List ℕ → Span
span_at begin line = record { at = begin; len = length line }

-- the draft with one more line, which begins at this index
abbrev pub with_line : ℕ → Draft → List ℕ → Option Draft
with_line begin d line = with_words d.stage (span_at begin line) (first_words line) d

-- what the part after the last newline makes: it is empty, and follows the last line that is wanted
abbrev pub ended : ℕ → Draft → List ℕ → Result Draft ℕ
ended n d rest = if is_over d && not (is_filled rest) then Ok d else Err n

-- what lines make of d, if the first of them has the number n and begins at this index, and the
-- last isn't ended by a newline
abbrev pub read_from : ℕ → ℕ → Draft → List (List ℕ) → Result Draft ℕ
read_from begin n d [] = Err n
read_from begin n d (rest ∷ []) = ended n d rest
read_from begin n d (line ∷ next ∷ ls) =
    ok_or (with_line begin d line) n
    >>= λ t. read_from (begin + (length line + 1)) (n + 1) t (next ∷ ls)

-- the reports of a text, one and so many more, or the number of its first bad line
abbrev pub reports_of : ℕ → List ℕ → Result (List ReportValue) ℕ
reports_of more text = read_from 0 1 (start more) (lines text) >>= λ d. Ok d.done
