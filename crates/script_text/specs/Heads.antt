-- The kinds of lines by their first words, and the order of the lines.
use Rattle.std.specs.Prelude.{ℕ, ◌==◌, Bool, true, false, ◌&&◌, ◌||◌, nat_le, nat_lt, List, [], ◌∷◌, codes, Option, Some, None}
use Rattle.text_forms.specs.Tables.{look_up}
use Rattle.call_lines.specs.Table.{call_word_of}
use Rattle.call_lines.specs.declared.table.CallWord.{CallWord}
use Rattle.script_text.specs.Draft.{Draft}
use Rattle.script_text.specs.declared.head.Head.{Head}
use Rattle.script_text.specs.declared.head.Head.TheVariants as head

abbrev pub section_of : List ℕ → Option Head
section_of text =
    look_up
    ((codes "imakern", head.Imakern) ∷ (codes "hash", head.Hash) ∷ (codes "template", head.Template)
    ∷ (codes "boot", head.Boot)
    ∷ (codes "appraise", head.Appraise) ∷ (codes "evm", head.Evm)
    ∷ (codes "evm_xattrs", head.EvmXattrs)
    ∷ (codes "evm_format", head.EvmFormat) ∷ (codes "fs", head.Fs) ∷ (codes "file", head.File)
    ∷ (codes "absent", head.Absent)
    ∷ (codes "attr", head.Attr) ∷ (codes "seal", head.Seal) ∷ (codes "rule", head.Rule)
    ∷ (codes "task", head.Task)
    ∷ (codes "schedule", head.Schedule) ∷ (codes "rounds", head.Rounds)
    ∷ (codes "threads", head.Threads) ∷ []) text

abbrev pub head_with : Option CallWord → Option Head → Option Head
head_with (Some w) other = Some (head.Call w)
head_with None other = other

abbrev pub head_of : List ℕ → Option Head
head_of text = head_with (call_word_of text) (section_of text)

-- ---- the order of the lines

-- the rank of a line: lines come in the order of their ranks
abbrev pub rank : Head → ℕ
rank head.Imakern = 1
rank head.Hash = 2
rank head.Template = 3
rank head.Boot = 4
rank head.Appraise = 5
rank head.Evm = 6
rank head.EvmXattrs = 7
rank head.EvmFormat = 8
rank head.Fs = 9
rank head.File = 10
rank head.Absent = 10
rank head.Attr = 10
rank head.Seal = 10
rank head.Rule = 11
rank head.Task = 12
rank (head.Call w) = 12
rank head.Schedule = 13
rank head.Rounds = 13
rank head.Threads = 13

-- kinds of which there may be several lines
abbrev pub repeats : Head → Bool
repeats head.EvmXattrs = true
repeats head.Fs = true
repeats head.File = true
repeats head.Absent = true
repeats head.Rule = true
repeats head.Task = true
repeats _ = false

-- not before the first line, and not after a line of a higher rank
abbrev pub in_order : ℕ → Bool → ℕ → Bool
in_order rank again at = nat_le 1 at && (nat_lt at rank || (again && at == rank))

-- whether the line can follow those before it: an attribute and a seal need the block of a file
-- that is present and isn't sealed, and a call that of a task
abbrev pub stands : Head → Draft → Bool
stands head.Imakern d = d.at == 0
stands head.Attr d = d.at == 10 && d.unsealed
stands head.Seal d = d.at == 10 && d.unsealed
stands (head.Call w) d = d.at == 12
stands h d = in_order (rank h) (repeats h) d.at

-- an ending line has been read
abbrev pub is_over : Draft → Bool
is_over d = d.at == 13
