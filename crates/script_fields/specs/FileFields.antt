-- What the words of the lines of files say.
use Rattle.std.specs.Prelude.{ℕ, List, [], ◌∷◌, codes, Option, Some, None, option_map, if◌then◌else◌}
use Rattle.text_forms.specs.Numbers.{is_short_numeral}
use Rattle.text_forms.specs.Paths.{is_path}
use Rattle.text_forms.specs.Tokens.{is_filled}
use Rattle.script_words.specs.Forms.{after_key_by, id_of, ino_of, mode_of}
use Rattle.script_words.specs.Value.{value_of}
use Rattle.script_fields.specs.Limits.{most_content}

-- the words that `file` and `absent` share; the number of the file system may have any length
pub record Front : Type 0 where
  pub path : List ℕ
  pub fs : List ℕ
  pub ino : ℕ
  pub generation : ℕ
  pub uid : ℕ
  pub gid : ℕ
  pub mode : ℕ

-- the path of a file
abbrev pub path_of : List ℕ → Option (List ℕ)
path_of text = if is_path text then Some text else None

-- the number of a file system, which may have any length
abbrev pub numeral_of : List ℕ → Option (List ℕ)
numeral_of text = if is_short_numeral 10 text then Some text else None

-- the front, if each of its words has its form
abbrev pub front_with : Option (List ℕ) → Option (List ℕ) → Option ℕ → Option ℕ → Option ℕ
    → Option ℕ → Option ℕ → Option Front
front_with (Some p) (Some f) (Some i) (Some g) (Some u) (Some o) (Some m) =
    Some (record { path = p; fs = f; ino = i; generation = g; uid = u; gid = o; mode = m })
front_with _ _ _ _ _ _ _ = None

-- the front that seven words say
abbrev pub front_of : List ℕ → List ℕ → List ℕ → List ℕ → List ℕ → List ℕ → List ℕ → Option Front
front_of p f i g u o m =
    front_with (path_of p) (after_key_by numeral_of (codes "fs=") f)
    (after_key_by ino_of (codes "ino=") i) (after_key_by id_of (codes "gen=") g)
    (after_key_by id_of (codes "uid=") u) (after_key_by id_of (codes "gid=") o)
    (after_key_by mode_of (codes "mode=") m)

-- the content of a file
abbrev pub content_of : List ℕ → Option (List ℕ)
content_of text = value_of 0 most_content text

-- `file PATH fs=NUM ino=NUM gen=NUM uid=NUM gid=NUM mode=MODE content=VALUE`
abbrev pub file_in : List (List ℕ) → Option (Front × List ℕ)
file_in (p ∷ f ∷ i ∷ g ∷ u ∷ o ∷ m ∷ c ∷ more) =
    if is_filled more then None else option_map (λ front. (front, c)) (front_of p f i g u o m)
file_in _ = None

-- `absent PATH fs=NUM ino=NUM gen=NUM uid=NUM gid=NUM mode=MODE`
abbrev pub front_in : List (List ℕ) → Option Front
front_in (p ∷ f ∷ i ∷ g ∷ u ∷ o ∷ m ∷ more) = if is_filled more then None
    else front_of p f i g u o m
front_in _ = None

-- the only two words
abbrev pub two : List (List ℕ) → Option (List ℕ × List ℕ)
two (a ∷ b ∷ []) = Some (a, b)
two _ = None
