-- The grammar of carry texts: the text that lines make, or the first bad line with the first cause
-- that holds of it.
use Rattle.std.specs.Prelude.{ℕ, ◌+◌, not, nat_lt, List, [], ◌∷◌, ◌++◌, length, codes, Option, Some, Result, Ok, Err, ok_or, if◌then◌else◌}
use Rattle.std.specs.Str.{bytes_eq}
use Rattle.script_text.specs.Limits.{most_files, within_sum}
use Rattle.script_text.specs.fields.SettingFields.{digest_in}
use Rattle.script_text.specs.ListGrammar as list
use Rattle.script_text.specs.events.forms.Lines.{◌>>=◌}
use Rattle.script_text.specs.script_lines.Causes.{cause_text}
use Rattle.script_text.specs.script_lines.Forms.{field}
use Rattle.script_text.specs.script_lines.Line.{cut_line, fields}
use Rattle.script_text.specs.script_lines.Read.{text_by}
use Rattle.script_text.specs.script_lines.Value.{value_of}
use Rattle.script_text.specs.script_lines.declared.fault.Fault.{Fault}
use Rattle.script_text.specs.script_lines.declared.fault.LineCause.{LineCause}
use Rattle.script_text.specs.script_lines.declared.fault.LineCause.TheVariants as cause
use Rattle.script_text.specs.script_lines.declared.fault.LineErr.{LineErr}
use Rattle.script_text.specs.script_lines.declared.fault.LineErr.TheVariants as err
use Rattle.script_text.specs.steps.hashes.declared.algo.Algo.TheVariants.{Sha256}
use Rattle.list_carry.specs.Draft.{Draft, as_list, start, with_list}
use Rattle.list_carry.specs.Heads.{head_of, is_over, rank, stands}
use Rattle.carry_form.specs.Reading.{cause_word, load_of}
use Rattle.list_carry.specs.Text.{CarryValue}
use Rattle.carry_form.specs.declared.causes.CarryCause.{CarryCause}
use Rattle.list_carry.specs.declared.head.CarryHead.{CarryHead}
use Rattle.list_carry.specs.declared.head.CarryHead.TheVariants as head
use Rattle.list_carry.specs.declared.line_cause.CarryLine.{CarryLine}
use Rattle.list_carry.specs.declared.line_cause.CarryLine.TheVariants as line

-- a cause as it is printed
abbrev pub line_text : CarryLine → List ℕ
line_text (line.Line c) = cause_text c
line_text (line.Carried c) = codes "bad-carried " ++ cause_word c

-- ---- causes of both kinds

-- a line that is refused for a cause that other texts have too
abbrev pub by_line : {X : Type 0} → Result X LineCause → Result X CarryLine
by_line (Ok x) = Ok x
by_line (Err c) = Err (line.Line c)

-- the result of such a line
abbrev pub on_line : Result (Unit {0}) (LineErr LineCause) → Result (Unit {0}) (LineErr CarryLine)
on_line (Ok u) = Ok u
on_line (Err (err.Refused c)) = Err (err.Refused (line.Line c))
on_line (Err err.OutOfMemory) = Err err.OutOfMemory

-- bytes that aren't the carried form of a list
abbrev pub by_form : {X : Type 0} → Result X CarryCause → Result X CarryLine
by_form (Ok x) = Ok x
by_form (Err c) = Err (line.Carried c)

-- the draft after a line, or the cause for which the line is refused
abbrev pub Made : Type 0
Made = Result Draft LineCause

-- the most bytes of a carried form
abbrev pub most_form : ℕ
most_form = 4194304

-- the sum of the draft and the length of one more value
abbrev pub counted : List ℕ → Draft → Result ℕ LineCause
counted value d = ok_or (within_sum (d.sum + length value)) cause.TooLarge

-- the sum with the length of one more content, if there can be one more file
abbrev pub room_for : List ℕ → Draft → Result ℕ LineCause
room_for content d =
    if not (nat_lt (length d.text.files) most_files) then Err cause.TooMany else counted content d

-- ---- the lines

-- `imacarry 1`
unfoldable pub with_version : List (List ℕ) → Draft → Made
with_version (w ∷ []) d = if bytes_eq w (codes "1") then Ok d else Err cause.BadField
with_version _ d = Err cause.BadField

-- the value that a word is, and the sum with its length
unfoldable pub form_of : List ℕ → Draft → Result (List ℕ × ℕ) LineCause
form_of w d = field (value_of 0 most_form w) λ form. counted form d >>= λ sum. Ok (form, sum)

-- the value of a line `carried VALUE`, and the sum with its length
unfoldable pub form_in : List (List ℕ) → Draft → Result (List ℕ × ℕ) LineCause
form_in (w ∷ []) d = form_of w d
form_in _ d = Err cause.BadField

abbrev pub with_carried_list : List ℕ × ℕ → Draft → Result Draft CarryLine
with_carried_list p d =
    by_form (load_of p.0) >>= λ list. Ok
    (record d { text = record d.text { carried = Some list }; sum = p.1 })

-- `carried VALUE`: the form is read only if the line has no other fault
unfoldable pub with_carried : List (List ℕ) → Draft → Result Draft CarryLine
with_carried words d = by_line (form_in words d) >>= λ p. with_carried_list p d

-- the value of a line `boot VALUE`
unfoldable pub with_digest : List ℕ → Draft → Made
with_digest w d =
    digest_in Sha256 w >>= λ g. counted g.bytes d >>= λ sum. Ok
    (record d { text = record d.text { boot = g.bytes }; sum = sum })

-- `boot VALUE`, the digest of the boot aggregate
unfoldable pub with_boot : List (List ℕ) → Draft → Made
with_boot (w ∷ []) d = with_digest w d
with_boot _ d = Err cause.BadField

-- a file within the limits, which are those of a list text
abbrev pub with_listed : list.Listed → Draft → Made
with_listed f d = list.listed f (as_list d) >>= λ l. Ok (with_list d l)

-- `file PATH VALUE`, as in a list text
unfoldable pub with_file : List (List ℕ) → Draft → Made
with_file words d = list.with_file words (as_list d) >>= λ l. Ok (with_list d l)

-- `end`
unfoldable pub with_end : List (List ℕ) → Draft → Made
with_end [] d = Ok d
with_end _ d = Err cause.BadField

-- ---- the text

-- the draft after a line, by the kind of the line and the words after its first
unfoldable pub with_head : CarryHead → List (List ℕ) → Draft → Result Draft CarryLine
with_head head.Imacarry words d = by_line (with_version words d)
with_head head.Carried words d = with_carried words d
with_head head.Boot words d = by_line (with_boot words d)
with_head head.File words d = by_line (with_file words d)
with_head head.End words d = by_line (with_end words d)

-- a line out of place is refused before its words are looked at
unfoldable pub placed : CarryHead → List (List ℕ) → Draft → Result Draft CarryLine
placed h words d = if stands h d then with_head h words (record d { at = rank h })
    else Err (line.Line cause.OutOfPlace)

abbrev pub headed : List ℕ × Option (List ℕ) → Draft → Result Draft CarryLine
headed l d =
    ok_or (head_of l.0) (line.Line cause.BadWord) >>= λ h. placed h (fields l.1) d

-- the draft with one more line
unfoldable pub add : Draft → List ℕ → Result Draft CarryLine
add d line = headed (cut_line line) d

abbrev pub carry_of : List ℕ → Result CarryValue (Fault CarryLine)
carry_of text = text_by (line.Line cause.NoEnd) add is_over start text >>= λ d. Ok d.text
