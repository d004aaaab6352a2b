-- A line, cut into its words.
use Rattle.std.specs.Prelude.{ℕ, ◌==◌, Bool, true, List, [], ◌∷◌, take, Option, Some, None, option_map, if◌then◌else◌}
use Rattle.text_forms.specs.Words.{words}

-- an empty line, or a comment
abbrev pub is_skipped : List ℕ → Bool
is_skipped [] = true
is_skipped (c ∷ cs) = c == 35

-- the text before the first separator, and the text after it
abbrev pub cut : ℕ → List ℕ → Option (List ℕ × List ℕ)
cut c [] = None
cut c (b ∷ bs) = if b == c then Some ([], bs) else option_map (λ p. (b ∷ p.0, p.1)) (cut c bs)

abbrev pub head_and_text : List ℕ → Option (List ℕ × List ℕ) → List ℕ × Option (List ℕ)
head_and_text line None = (line, None)
head_and_text line (Some p) = (p.0, Some p.1)

-- the first word, and the text after the first space, if there is one
abbrev pub cut_line : List ℕ → List ℕ × Option (List ℕ)
cut_line line = head_and_text line (cut 32 line)

-- the words after the first
abbrev pub all_fields : Option (List ℕ) → List (List ℕ)
all_fields None = []
all_fields (Some text) = words text

-- at most nine words after the first: no line has more, except those whose words are read
-- separately
abbrev pub fields : Option (List ℕ) → List (List ℕ)
fields text = take 9 (all_fields text)
