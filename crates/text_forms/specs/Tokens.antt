-- Tokens are separated by any number of spaces and tabs, and by no other byte.
use Rattle.std.specs.Prelude.{ℕ, Bool, true, false, not, ◌==◌, ◌||◌, List, [], ◌∷◌, filter}
use Rattle.std.specs.List.{slice_split}

abbrev pub is_blank : ℕ → Bool
is_blank b = (b == 32) || (b == 9)

abbrev pub is_inked : ℕ → Bool
is_inked b = not (is_blank b)

abbrev pub is_filled : {X : Type 0} → List X → Bool
is_filled [] = false
is_filled (x ∷ xs) = true

abbrev pub tokens : List ℕ → List (List ℕ)
tokens line = filter is_filled (slice_split is_blank line)
