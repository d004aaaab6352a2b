-- The table as it is printed: the front of a line, and all of the table by the text of its lines.
use Rattle.std.specs.Prelude.{ℕ, List, [], ◌∷◌, ◌++◌, codes}
use Rattle.std.specs.List.{join_with_byte}
use Rattle.script_text.specs.steps.policy.ValueTexts.{func_word}
use Rattle.script_text.specs.steps.policy.declared.rule.Func.{Func}
use Rattle.report_text.specs.Numerals.{numeral}

-- `load TASK.CALL FUNC` with a space after each
abbrev pub hook_text : ℕ → ℕ → Func → List ℕ
hook_text n k func =
    codes "load " ++ numeral n ++ codes "." ++ numeral k ++ codes " " ++ func_word func ++ codes " "

-- how many lines, the text of the lines, and `end`
abbrev pub table_text : ℕ → List ℕ → List ℕ
table_text count lines =
    join_with_byte 32 (codes "loads" ∷ numeral count ∷ []) ++ codes "\n" ++ lines ++ codes "end\n"
