-- Lines of words, and their text: one space between the words, and a newline at the end.
use Rattle.std.specs.Prelude.{ℕ, ◌==◌, Bool, false, ◌&&◌, not, List, [], ◌∷◌, ◌++◌}
use Rattle.std.specs.List.{flat_map, list_all}
use Rattle.text_forms.specs.Words.{is_visible}

-- a line, as the list of its words
abbrev pub Line : Type 0
Line = List (List ℕ)

-- the word after a space
abbrev pub after_space : List ℕ → List ℕ
after_space w = 32 ∷ w

-- the words, each preceded by a space
abbrev pub spaced : Line → List ℕ
spaced ws = flat_map after_space ws

-- the text of the line without its newline
abbrev pub words_text : Line → List ℕ
words_text [] = []
words_text (w ∷ ws) = w ++ spaced ws

-- the text of the line with its newline
abbrev pub line_text : Line → List ℕ
line_text l = words_text l ++ 10 ∷ []

-- the text of lines, one after another
abbrev pub lines_text : List Line → List ℕ
lines_text ls = flat_map line_text ls

-- all bytes of the word are visible
abbrev pub is_plain : List ℕ → Bool
is_plain w = list_all is_visible w

-- a word that can begin a line: it isn't empty, and the line isn't a comment
abbrev pub begins_line : List ℕ → Bool
begins_line [] = false
begins_line (c ∷ cs) = not (c == 35)

-- a line whose text is read as the same words
abbrev pub is_read_line : Line → Bool
is_read_line [] = false
is_read_line (w ∷ ws) = begins_line w && list_all is_plain (w ∷ ws)
