-- The kinds of lines of a text of buffers by their first words, and the order of the lines.
use Rattle.std.specs.Prelude.{ℕ, ◌==◌, Bool, true, false, List, [], ◌∷◌, codes, Option}
use Rattle.script_text.specs.Heads.{in_order}
use Rattle.script_text.specs.events.forms.Tables.{look_up}
use Rattle.buffer_text.specs.Draft.{Draft}
use Rattle.buffer_text.specs.declared.head.BufferHead.{BufferHead}
use Rattle.buffer_text.specs.declared.head.BufferHead.TheVariants as head

abbrev pub head_of : List ℕ → Option BufferHead
head_of text =
    look_up
    ((codes "imabuffers", head.Imabuffers) ∷ (codes "hash", head.Hash) ∷ (codes "rule", head.Rule)
    ∷ (codes "caller", head.Caller) ∷ (codes "critical", head.Critical)
    ∷ (codes "threads", head.Threads) ∷ []) text

-- the rank of a line: lines come in the order of their ranks
abbrev pub rank : BufferHead → ℕ
rank head.Imabuffers = 1
rank head.Hash = 2
rank head.Rule = 3
rank head.Caller = 4
rank head.Critical = 4
rank head.Threads = 5

-- kinds of which there may be several lines
abbrev pub repeats : BufferHead → Bool
repeats head.Rule = true
repeats head.Caller = true
repeats _ = false

-- whether the line can follow those before it: a buffer needs the block of a caller
abbrev pub stands : BufferHead → Draft → Bool
stands head.Imabuffers d = d.at == 0
stands head.Critical d = d.at == 4
stands h d = in_order (rank h) (repeats h) d.at

-- the line `threads` has been read
abbrev pub is_over : Draft → Bool
is_over d = d.at == 5
