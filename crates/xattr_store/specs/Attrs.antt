-- Extended attributes as a list of pairs of name and value. The names are distinct and in byte
-- order.
use Rattle.std.specs.Prelude.{◌≡◌, ℕ, ◌≤◌, List, [], ◌∷◌, length, Option, Some, None}
use Rattle.std.specs.Cmp.Lexicographic.{slice_cmp}
use Rattle.std.specs.BTreeMap.{insert_entry}
use Rattle.std.specs.Map.{lookup, remove_entry}
use Rattle.std.specs.Ordering.{nat_cmp}
use Rattle.std.specs.declared.cmp.Ordering.{Ordering}
use Rattle.std.specs.declared.cmp.Ordering.TheVariants.{Less}
use Rattle.std.specs.Str.{bytes_eq}

-- a name and its value
abbrev pub Pair : Type 0
Pair = List ℕ × List ℕ

-- byte order: the first bytes that differ decide, and a proper prefix of a name comes before it
abbrev pub byte_order : List ℕ → List ℕ → Ordering
byte_order = slice_cmp nat_cmp

-- the value of the attribute with this name, if there is one
abbrev pub value : List ℕ → List Pair → Option (List ℕ)
value name attrs = lookup (bytes_eq name) attrs

-- the attributes after this value is set under the name
abbrev pub put : List ℕ → List ℕ → List Pair → List Pair
put name bytes attrs = insert_entry byte_order attrs name bytes

-- the attributes without the one of this name
abbrev pub without : List ℕ → List Pair → List Pair
without name attrs = remove_entry (bytes_eq name) attrs

-- the attributes after the name gets this value, or is removed
abbrev pub changed : List ℕ → Option (List ℕ) → List Pair → List Pair
changed name None attrs = without name attrs
changed name (Some bytes) attrs = put name bytes attrs

-- the most bytes that the value of an attribute may have
abbrev pub most_value : ℕ
most_value = 4096

-- there is no value, or it isn't longer than `most_value`
abbrev pub Fits : Option (List ℕ) → Type 0
Fits None = Unit {0}
Fits (Some bytes) = length bytes ≤ most_value

-- the name comes before all names of the attributes
abbrev pub IsBefore : List ℕ → List Pair → Type 0
IsBefore name [] = Unit {0}
IsBefore name (a ∷ rest) = (byte_order name a.0 ≡ Less) × IsBefore name rest

-- the names are distinct and in byte order, and no value is longer than `most_value`
abbrev pub IsAttrs : List Pair → Type 0
IsAttrs [] = Unit {0}
IsAttrs (a ∷ rest) = IsBefore a.0 rest × (length a.1 ≤ most_value) × IsAttrs rest
