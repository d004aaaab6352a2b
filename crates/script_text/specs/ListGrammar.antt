-- The grammar of list texts: paths and contents.
use Rattle.std.specs.Prelude.{ℕ, ◌+◌, ◌==◌, Bool, not, nat_lt, List, [], ◌∷◌, ◌++◌, length, codes, Option, Result, Ok, Err, ok_or, if◌then◌else◌}
use Rattle.std.specs.Str.{bytes_eq}
use Rattle.text_forms.specs.Tables.{look_up}
use Rattle.text_forms.specs.Lines.{◌>>=◌}
use Rattle.text_forms.specs.Paths.{is_path}
use Rattle.script_words.specs.declared.fault.Fault.{Fault}
use Rattle.script_words.specs.declared.fault.LineCause.{LineCause}
use Rattle.script_words.specs.declared.fault.LineCause.TheVariants as cause
use Rattle.script_words.specs.Forms.{field}
use Rattle.script_words.specs.Line.{cut_line, fields}
use Rattle.script_words.specs.Read.{text_of}
use Rattle.script_fields.specs.FileFields.{content_of, two}
use Rattle.script_fields.specs.Limits.{most_bytes, most_files}
use Rattle.script_text.specs.declared.list_head.ListHead.{ListHead}
use Rattle.script_text.specs.declared.list_head.ListHead.TheVariants as head

-- a path and its content
abbrev pub Listed : Type 0
Listed = List ℕ × List ℕ

pub record ListDraft : Type 0 where
  pub files : List Listed
  -- 0 before the first line, 1 after it, 2 after the last
  pub at : ℕ
  pub sum : ℕ

abbrev pub start : ListDraft
start = record { files = []; at = 0; sum = 0 }

abbrev pub Made : Type 0
Made = Result ListDraft LineCause

abbrev pub head_of : List ℕ → Option ListHead
head_of text = look_up ((codes "file", head.File) ∷ (codes "imalist", head.Imalist)
    ∷ (codes "end", head.End) ∷ []) text

-- `imalist` comes first, then the other lines up to `end`
abbrev pub stands : ListHead → ListDraft → Bool
stands head.Imalist d = d.at == 0
stands _ d = d.at == 1

-- `imalist 1`
abbrev pub with_version : List (List ℕ) → ListDraft → Made
with_version (w ∷ []) d = if bytes_eq w (codes "1") then Ok (record d { at = 1 })
    else Err cause.BadField
with_version _ d = Err cause.BadField

abbrev pub listed : Listed → ListDraft → Made
listed f d =
    if not (nat_lt (length d.files) most_files) then Err cause.TooMany
    else if nat_lt most_bytes (d.sum + length f.1) then Err cause.TooLarge
    else Ok (record d { files = d.files ++ f ∷ []; sum = d.sum + length f.1 })

-- `file PATH VALUE`; the same path may occur twice
abbrev pub with_file : List (List ℕ) → ListDraft → Made
with_file words d =
    field (two words) λ w.
    if not (is_path w.0) then Err cause.BadField
    else field (content_of w.1) λ content. listed (w.0, content) d

abbrev pub with_end : List (List ℕ) → ListDraft → Made
with_end [] d = Ok (record d { at = 2 })
with_end _ d = Err cause.BadField

abbrev pub with_head : ListHead → List (List ℕ) → ListDraft → Made
with_head head.Imalist words d = with_version words d
with_head head.File words d = with_file words d
with_head head.End words d = with_end words d

abbrev pub placed : ListHead → List (List ℕ) → ListDraft → Made
placed h words d = if stands h d then with_head h words d else Err cause.OutOfPlace

abbrev pub add : ListDraft → List ℕ → Made
add d line = let l = cut_line line in ok_or (head_of l.0) cause.BadWord >>= λ h. placed h
    (fields l.1) d

abbrev pub is_over : ListDraft → Bool
is_over d = d.at == 2

abbrev pub list_of : List ℕ → Result (List Listed) (Fault LineCause)
list_of text = text_of add is_over start text >>= λ d. Ok d.files
