-- The paths of a script's files, looked up in a map.
use Rattle.std.specs.Prelude.{◌≡◌, ℕ, ◌+◌, List, [], ◌∷◌, Option, Some, None, Vec, if◌then◌else◌}
use Rattle.std.specs.BTreeMap.{BTreeMap, get_by}
use Rattle.std.specs.Cmp.Lexicographic.{slice_cmp}
use Rattle.std.specs.Ordering.{nat_cmp}
use Rattle.std.specs.Str.{bytes_eq}

-- the index increased by one, if there is one
abbrev pub one_on : Option ℕ → Option ℕ
one_on None = None
one_on (Some n) = Some (n + 1)

-- the index of the path among the paths
abbrev pub place_in : List (List ℕ) → List ℕ → Option ℕ
place_in [] path = None
place_in (p ∷ ps) path = if bytes_eq path p then Some 0 else one_on (place_in ps path)

-- the map has each path with its index
abbrev pub Finds : {A : Type 0} → BTreeMap (Vec ℕ A) ℕ → List (List ℕ) → Type 0
Finds places paths = (path : List ℕ) → get_by (λ k. slice_cmp nat_cmp path k.items) places
    ≡ place_in paths path
