-- The grammar of scripts: the script of a text, or its first bad line with the first cause that
-- holds of it.
use Rattle.std.specs.Prelude.{ℕ, List, Option, Result, Ok, Err, ok_or, if◌then◌else◌}
use Rattle.text_forms.specs.Lines.{◌>>=◌}
use Rattle.script_words.specs.declared.fault.Fault.{Fault}
use Rattle.script_words.specs.declared.fault.LineCause.{LineCause}
use Rattle.script_words.specs.declared.fault.LineCause.TheVariants as cause
use Rattle.script_words.specs.Line.{all_fields, cut_line, fields}
use Rattle.script_words.specs.Read.{text_of}
use Rattle.script_text.specs.Draft.{Draft, start}
use Rattle.script_text.specs.Files.{with_absent, with_attr, with_file, with_seal}
use Rattle.script_text.specs.Heads.{head_of, is_over, rank, stands}
use Rattle.script_text.specs.ScriptValue.{ScriptValue}
use Rattle.script_text.specs.Settings.{Made, with_boot, with_format, with_hash, with_key, with_mode, with_name, with_super, with_template, with_version}
use Rattle.script_text.specs.Tasks.{with_call_line, with_rounds, with_rule, with_schedule, with_task, with_threads}
use Rattle.script_text.specs.declared.head.Head.{Head}
use Rattle.script_text.specs.declared.head.Head.TheVariants as head

-- the draft after a line, by the kind of the line, the text after its first word, and the words of
-- that text
unfoldable pub with_head : Head → Option (List ℕ) → List (List ℕ) → Draft → Made
with_head head.Imakern text words d = with_version words d
with_head head.Hash text words d = with_hash words d
with_head head.Template text words d = with_template words d
with_head head.Boot text words d = with_boot words d
with_head head.Appraise text words d = with_mode words d
with_head head.Evm text words d = with_key words d
with_head head.EvmXattrs text words d = with_name words d
with_head head.EvmFormat text words d = with_format words d
with_head head.Fs text words d = with_super words d
with_head head.File text words d = with_file words d
with_head head.Absent text words d = with_absent words d
with_head head.Attr text words d = with_attr words d
with_head head.Seal text words d = with_seal words d
with_head head.Task text words d = with_task words d
with_head head.Rounds text words d = with_rounds words d
with_head head.Threads text words d = with_threads words d
with_head head.Rule text words d = with_rule text d
with_head (head.Call w) text words d = with_call_line w text words d
with_head head.Schedule text words d = with_schedule (all_fields text) d

-- a line out of place is refused before its words are read
unfoldable pub placed : Head → Option (List ℕ) → Draft → Made
placed h text d = if stands h d then with_head h text (fields text) (record d { at = rank h })
    else Err cause.OutOfPlace

abbrev pub headed : List ℕ × Option (List ℕ) → Draft → Made
headed l d = ok_or (head_of l.0) cause.BadWord >>= λ h. placed h l.1 d

-- the draft with one more line
unfoldable pub add : Draft → List ℕ → Made
add d line = headed (cut_line line) d

abbrev pub script_of : List ℕ → Result ScriptValue (Fault LineCause)
script_of text = text_of add is_over start text >>= λ d. Ok d.script
