-- The front of a record as it is printed.
use Rattle.std.specs.Prelude.{ℕ, List, [], ◌∷◌, ◌++◌, codes}
use Rattle.std.specs.List.{join_with_byte}
use Rattle.report_text.specs.Numerals.{numeral}
use Rattle.report_text.specs.Words.{who_word}
use Rattle.world_model.specs.model.events.meta.declared.step.Who.{Who}

-- `I.K TASK.CALL.STEP`
abbrev pub place_text : ℕ → ℕ → Who → List ℕ
place_text i k who = (numeral i ++ 46 ∷ numeral k) ++ 32 ∷ who_word who

-- `.K TASK.CALL.STEP`
abbrev pub check_text : ℕ → Who → List ℕ
check_text k who = codes "." ++ numeral k ++ codes " " ++ who_word who

-- `WORD I.K TASK.CALL.STEP line L PATH`
abbrev pub front_text : List ℕ → ℕ → ℕ → Who → ℕ → List ℕ → List ℕ
front_text word i k who line path =
    join_with_byte 32 (word ∷ place_text i k who ∷ codes "line" ∷ numeral line ∷ path ∷ [])
