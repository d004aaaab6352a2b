-- The result of a search for a name among attributes in byte order.
use Rattle.std.specs.Prelude.{◌≡◌, ℕ, zero, suc, List, [], ◌∷◌}
use Rattle.std.specs.declared.cmp.Ordering.TheVariants.{Less, Equal, Greater}
use Rattle.xattr_store.specs.Attrs.{byte_order, Pair}

-- the first k names of the attributes come before the name
abbrev pub IsPast : List ℕ → List Pair → ℕ → Type 0
IsPast name attrs zero = Unit {0}
IsPast name [] (suc k) = ⊥
IsPast name (a ∷ rest) (suc k) = (byte_order name a.0 ≡ Greater) × IsPast name rest k

-- the name is at index k, and the names at smaller indices come before it
abbrev pub IsFoundAt : List ℕ → List Pair → ℕ → Type 0
IsFoundAt name [] k = ⊥
IsFoundAt name (a ∷ rest) zero = byte_order name a.0 ≡ Equal
IsFoundAt name (a ∷ rest) (suc k) = (byte_order name a.0 ≡ Greater) × IsFoundAt name rest k

-- the name isn't there: those at indices below k come before it, and the one at k, if there is one,
-- comes after it
abbrev pub IsGapAt : List ℕ → List Pair → ℕ → Type 0
IsGapAt name [] zero = Unit {0}
IsGapAt name [] (suc k) = ⊥
IsGapAt name (a ∷ rest) zero = byte_order name a.0 ≡ Less
IsGapAt name (a ∷ rest) (suc k) = (byte_order name a.0 ≡ Greater) × IsGapAt name rest k
