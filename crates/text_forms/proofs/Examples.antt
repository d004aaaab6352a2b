-- Texts and their values, computed.
use Rattle.std.proofs.Common.{◌≡◌, true, false, [], ◌∷◌, codes, Some, None, refl}
use Rattle.std.specs.Prelude.{replicate}
use Rattle.uuid.specs.Text.{by_index}
use Rattle.text_forms.specs.FileSystems.{magic_of, uuid_of}
use Rattle.text_forms.specs.Numbers.{is_short_numeral, short_number_of}
use Rattle.text_forms.specs.Paths.{is_path}
use Rattle.text_forms.specs.Tokens.{tokens}
use Rattle.text_forms.specs.Words.{words}

-- sixty digits have the form of a number, although their value is above the limit
long_number : (is_short_numeral 10 (replicate 60 57) ≡ true)
    × (short_number_of 10 0xffff_ffff_ffff_ffff (replicate 60 57) ≡ None)
long_number = (refl, refl)

short_numbers : (is_short_numeral 10 (codes "0") ≡ true)
    × (is_short_numeral 10 (codes "00") ≡ false) × (is_short_numeral 10 [] ≡ false)
    × (is_short_numeral 8 (codes "8") ≡ false) × (short_number_of 8 0o177777 (codes "0755") ≡ None)
    × (short_number_of 8 0o177777 (codes "755") ≡ Some 493)
short_numbers = (refl, refl, refl, refl, refl, refl)

paths : (is_path (codes "/a") ≡ true) × (is_path (codes "/usr/bin/cat") ≡ true)
    × (is_path (codes "/") ≡ false) × (is_path (codes "a/b") ≡ false)
    × (is_path (codes "/a/") ≡ false) × (is_path (codes "/a//b") ≡ false)
paths = (refl, refl, refl, refl, refl, refl)

longest_component : (is_path (47 ∷ replicate 255 97) ≡ true)
    × (is_path (47 ∷ replicate 256 97) ≡ false)
longest_component = (refl, refl)

magics : (magic_of (codes "0xEF53") ≡ Some 61267) × (magic_of (codes "0Xef53") ≡ Some 61267)
    × (magic_of (codes "ef53") ≡ Some 61267)
    × (magic_of (codes "0x") ≡ None) × (magic_of (codes "x1") ≡ None)
    × (magic_of (replicate 16 48) ≡ Some 0) × (magic_of (replicate 17 48) ≡ None)
magics = (refl, refl, refl, refl, refl, refl, refl)

uuids : (uuid_of (codes "f81d4fae-7dec-11d0-A765-00a0c91e6bf6")
    ≡ Some 0xf81d4fae7dec11d0a76500a0c91e6bf6)
    × (uuid_of (codes "f81d4fae7dec11d0a76500a0c91e6bf6") ≡ None)
unfolding by_index
uuids = (refl, refl)

two_spaces : (words (codes "a  b") ≡ codes "a" ∷ [] ∷ codes "b" ∷ [])
    × (tokens (codes " a \t b") ≡ codes "a" ∷ codes "b" ∷ [])
two_spaces = (refl, refl)
