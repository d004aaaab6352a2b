-- The kinds of lines of a carry text by their first words, and the order of the lines.
use Rattle.std.specs.Prelude.{ℕ, ◌==◌, ◌||◌, Bool, false, List, [], ◌∷◌, codes, Option}
use Rattle.script_text.specs.Heads.{in_order}
use Rattle.script_text.specs.events.forms.Tables.{look_up}
use Rattle.list_carry.specs.Draft.{Draft}
use Rattle.list_carry.specs.declared.head.CarryHead.{CarryHead}
use Rattle.list_carry.specs.declared.head.CarryHead.TheVariants as head

abbrev pub head_of : List ℕ → Option CarryHead
head_of text =
    look_up
    ((codes "imacarry", head.Imacarry) ∷ (codes "carried", head.Carried) ∷ (codes "boot", head.Boot)
    ∷ (codes "file", head.File) ∷ (codes "end", head.End) ∷ []) text

-- the rank of a line: lines come in the order of their ranks
abbrev pub rank : CarryHead → ℕ
rank head.Imacarry = 1
rank head.Carried = 2
rank head.Boot = 3
rank head.File = 4
rank head.End = 5

-- the boot aggregate has been read, and perhaps files after it
abbrev pub has_boot : Draft → Bool
has_boot d = d.at == 3 || d.at == 4

-- whether the line can follow those before it: a file and the end need the boot aggregate
abbrev pub stands : CarryHead → Draft → Bool
stands head.Imacarry d = d.at == 0
stands head.File d = has_boot d
stands head.End d = has_boot d
stands h d = in_order (rank h) false d.at

-- the line `end` has been read
abbrev pub is_over : Draft → Bool
is_over d = d.at == 5
