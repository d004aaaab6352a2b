-- The grammar of texts of buffers: the text that lines make, or the first bad line with the first
-- cause that holds of it.
use Rattle.std.specs.Prelude.{ℕ, ◌+◌, ◌==◌, not, nat_lt, List, [], ◌∷◌, ◌++◌, length, codes, Option, None, Result, Ok, Err, ok_or, if◌then◌else◌}
use Rattle.std.specs.Str.{bytes_eq}
use Rattle.script_text.specs.events.forms.Lines.{◌>>=◌}
use Rattle.script_text.specs.events.forms.Words.{is_word}
use Rattle.script_text.specs.events.meta.declared.identity.Cred.{Cred}
use Rattle.script_text.specs.steps.hashes.Algo.{algo_by_name}
use Rattle.script_text.specs.script_lines.declared.fault.Fault.{Fault}
use Rattle.script_text.specs.script_lines.declared.fault.LineCause.{LineCause}
use Rattle.script_text.specs.script_lines.declared.fault.LineCause.TheVariants as cause
use Rattle.script_text.specs.script_lines.Forms.{field, rule_of}
use Rattle.script_text.specs.script_lines.Line.{cut_line, fields}
use Rattle.script_text.specs.script_lines.Read.{text_of}
use Rattle.script_text.specs.script_lines.Value.{value_of}
use Rattle.script_text.specs.Draft.{change_last}
use Rattle.script_text.specs.fields.FileFields.{two}
use Rattle.script_text.specs.Limits.{most_bytes, most_rules, most_value}
use Rattle.script_text.specs.fields.TaskFields.{cred_in, threads_of}
use Rattle.buffer_text.specs.Draft.{Draft, start}
use Rattle.buffer_text.specs.Heads.{head_of, is_over, rank, stands}
use Rattle.buffer_text.specs.Limits.{most_callers, most_lines}
use Rattle.buffer_text.specs.Text.{Buffer, BufferValue, caller_with}
use Rattle.buffer_text.specs.declared.head.BufferHead.{BufferHead}
use Rattle.buffer_text.specs.declared.head.BufferHead.TheVariants as head

-- the draft after a line, or the cause for which the line is refused
abbrev pub Made : Type 0
Made = Result Draft LineCause

-- `imabuffers 1`
unfoldable pub with_version : List (List ℕ) → Draft → Made
with_version (w ∷ []) d = if bytes_eq w (codes "1") then Ok d else Err cause.BadField
with_version _ d = Err cause.BadField

-- `hash ALGO`
unfoldable pub with_hash : List (List ℕ) → Draft → Made
with_hash (w ∷ []) d =
    ok_or (algo_by_name w) cause.BadField >>= λ a. Ok
    (record d { text = record d.text { hash = a } })
with_hash _ d = Err cause.BadField

-- `rule TEXT`
unfoldable pub with_rule : Option (List ℕ) → Draft → Made
with_rule text d =
    rule_of text >>= λ r.
    if nat_lt (length d.text.rules) most_rules
    then Ok (record d { text = record d.text { rules = d.text.rules ++ r ∷ [] } })
    else Err cause.TooMany

-- a caller has the words of a script's task, but never `admin`
abbrev pub caller_of : List (List ℕ) → Option Cred
caller_of words = if length words == 4 then cred_in words else None

unfoldable pub with_cred : Cred → Draft → Made
with_cred c d =
    if nat_lt (length d.text.callers) most_callers
    then Ok (record d {
      text = record d.text { callers = d.text.callers ++ record { cred = c; lines = [] } ∷ [] };
    })
    else Err cause.TooMany

-- `caller uid=NUM euid=NUM gid=NUM egid=NUM`
unfoldable pub with_caller : List (List ℕ) → Draft → Made
with_caller words d = field (caller_of words) λ c. with_cred c d

-- the last caller has one more buffer
abbrev pub lined : Buffer → Draft → Draft
lined line d =
    record d {
      text = record d.text { callers = change_last (caller_with line) d.text.callers };
      lines = d.lines + 1;
      sum = d.sum + length line.1;
    }

unfoldable pub with_line : Buffer → Draft → Made
with_line line d =
    if not (nat_lt d.lines most_lines) then Err cause.TooMany
    else if nat_lt most_bytes (d.sum + length line.1) then Err cause.TooLarge
    else Ok (lined line d)

-- `critical NAME VALUE`
unfoldable pub with_critical : List (List ℕ) → Draft → Made
with_critical words d =
    field (two words) λ w.
    if not (is_word 255 w.0) then Err cause.BadField
    else field (value_of 0 most_value w.1) λ value. with_line (w.0, value) d

-- `threads NUM`
unfoldable pub with_threads : List (List ℕ) → Draft → Made
with_threads (w ∷ []) d =
    ok_or (threads_of w) cause.BadField >>= λ n. Ok
    (record d { text = record d.text { threads = n } })
with_threads _ d = Err cause.BadField

-- the draft after a line, by the kind of the line, the text after its first word, and the words of
-- that text
unfoldable pub with_head : BufferHead → Option (List ℕ) → List (List ℕ) → Draft → Made
with_head head.Imabuffers text words d = with_version words d
with_head head.Hash text words d = with_hash words d
with_head head.Rule text words d = with_rule text d
with_head head.Caller text words d = with_caller words d
with_head head.Critical text words d = with_critical words d
with_head head.Threads text words d = with_threads words d

-- a line out of place is refused before its words are read
unfoldable pub placed : BufferHead → Option (List ℕ) → Draft → Made
placed h text d = if stands h d then with_head h text (fields text) (record d { at = rank h })
    else Err cause.OutOfPlace

abbrev pub headed : List ℕ × Option (List ℕ) → Draft → Made
headed l d = ok_or (head_of l.0) cause.BadWord >>= λ h. placed h l.1 d

-- the draft with one more line
unfoldable pub add : Draft → List ℕ → Made
add d line = headed (cut_line line) d

abbrev pub buffers_of : List ℕ → Result BufferValue (Fault LineCause)
buffers_of text = text_of add is_over start text >>= λ d. Ok d.text
