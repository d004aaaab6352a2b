-- A line of text.
use Rattle.std.specs.Prelude.{ℕ, List, [], ◌∷◌, ◌++◌}

abbrev pub with_newline : List ℕ → List ℕ
with_newline text = text ++ 10 ∷ []
