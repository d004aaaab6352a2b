-- The paths of files.
use Rattle.std.specs.Prelude.{ℕ, Bool, false, ◌==◌, ◌&&◌, nat_le, List, [], ◌∷◌, length}
use Rattle.std.specs.List.{slice_split, list_all}
use Rattle.text_forms.specs.Words.{is_word}

-- components of 1 to 255 visible bytes, each after one slash; at most 1,024 bytes in all
abbrev pub is_path : List ℕ → Bool
is_path [] = false
is_path (b ∷ parts) =
    b == 47 && nat_le (length (b ∷ parts)) 1024
    && list_all (is_word 255) (slice_split (λ c. c == 47) parts)
