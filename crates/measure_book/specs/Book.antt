-- The measurement list, and the number of the pass that added each entry.
use Rattle.std.specs.Prelude.{ℕ, List, [], ◌∷◌, ◌++◌}
use Rattle.ima_templates.specs.declared.entry.Placed.{Placed}
use Rattle.ima_templates.specs.declared.entry.Placed.TheVariants.{Added, Already}

-- for each entry, the number of the pass that added it, after an add by the pass with this number
-- has had this outcome
abbrev pub numbers_after : Placed → ℕ → List ℕ → List ℕ
numbers_after (Added place) number numbers = numbers ++ number ∷ []
numbers_after (Already place) number numbers = numbers
