-- Words are separated by single spaces.
use Rattle.std.specs.Prelude.{ℕ, Bool, false, not, ◌==◌, ◌&&◌, nat_le, List, [], ◌∷◌, ◌++◌, length}
use Rattle.std.specs.List.{slice_split, list_all, flat_map, join_with_byte}
use Rattle.text_forms.specs.Tokens.{is_filled}

abbrev pub words : List ℕ → List (List ℕ)
words line = slice_split (λ b. b == 32) line

-- a printing ASCII byte other than the space
abbrev pub is_visible : ℕ → Bool
is_visible b = nat_le 33 b && nat_le b 126

-- 1 to `most` visible bytes
abbrev pub is_word : ℕ → List ℕ → Bool
is_word most text = is_filled text && nat_le (length text) most && list_all is_visible text

-- a byte of a word of a report: neither a newline nor a space
abbrev pub is_clean_byte : ℕ → Bool
is_clean_byte b = not (b == 10) && not (b == 32)

-- a word of a report: it has neither newlines nor spaces
abbrev pub is_clean : List ℕ → Bool
is_clean word = list_all is_clean_byte word

-- a line of a report: at least one word, any of which may be empty
abbrev pub is_line : List (List ℕ) → Bool
is_line [] = false
is_line (w ∷ ws) = list_all is_clean (w ∷ ws)

-- the text of lines, each given by its words
abbrev pub text_of : List (List (List ℕ)) → List ℕ
text_of ls = flat_map (λ ws. join_with_byte 32 ws ++ 10 ∷ []) ls
