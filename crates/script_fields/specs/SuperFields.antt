-- What the words of the line of a file system say.
use Rattle.std.specs.Prelude.{ℕ, Bool, true, false, List, [], ◌∷◌, codes, Option, Some, None, if◌then◌else◌}
use Rattle.policy_rules.specs.declared.access.Super.{Super}
use Rattle.text_forms.specs.FileSystems.{magic_of, uuid_of}
use Rattle.text_forms.specs.Tables.{look_up}
use Rattle.text_forms.specs.Tokens.{is_filled}
use Rattle.text_forms.specs.Words.{is_word}
use Rattle.script_words.specs.Forms.{after_key_by}

-- whether the file system counts versions
abbrev pub versions_of : List ℕ → Option Bool
versions_of word = look_up ((codes "versions", true) ∷ (codes "noversions", false) ∷ []) word

-- a name of 1 to 255 visible bytes, of a file system or of an attribute
abbrev pub name_of : List ℕ → Option (List ℕ)
name_of text = if is_word 255 text then Some text else None

-- the file system, if each of its words has its form
abbrev pub super_with : Option ℕ → Option ℕ → Option (List ℕ) → Option Bool → Option Super
super_with (Some magic) (Some uuid) (Some name) (Some versions) =
    Some (record { magic = magic; uuid = uuid; name = name; versions = versions })
super_with _ _ _ _ = None

-- the file system that four words say
abbrev pub super_of : List ℕ → List ℕ → List ℕ → List ℕ → Option Super
super_of m u n v =
    super_with (after_key_by magic_of (codes "magic=") m) (after_key_by uuid_of (codes "uuid=") u)
    (after_key_by name_of (codes "name=") n) (versions_of v)

-- `fs magic=MAGIC uuid=UUID name=WORD versions`, or `noversions` as the last word
abbrev pub super_in : List (List ℕ) → Option Super
super_in (m ∷ u ∷ n ∷ v ∷ more) = if is_filled more then None else super_of m u n v
super_in _ = None
