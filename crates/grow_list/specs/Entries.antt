-- The entries of a list, sorted by the pass that added them: a second list of the same length has,
-- for each entry, the number of its pass.
use Rattle.std.specs.Prelude.{ℕ, ◌+◌, ◌==◌, ◌||◌, Bool, false, if◌then◌else◌, List, [], ◌∷◌}

module _ {E : Type 0} where
  -- the entries of the pass n, each with its index, if the first index is k
  abbrev pub entries_from : ℕ → ℕ → List ℕ → List E → List (ℕ × E)
  entries_from n k [] xs = []
  entries_from n k (m ∷ ms) [] = []
  entries_from n k (m ∷ ms) (x ∷ xs) =
      if n == m then (k, x) ∷ entries_from n (k + 1) ms xs else entries_from n (k + 1) ms xs

  abbrev pub entries_of : ℕ → List ℕ → List E → List (ℕ × E)
  entries_of n numbers list = entries_from n 0 numbers list

  -- one of these entries has this index
  abbrev pub has_place : ℕ → List (ℕ × E) → Bool
  has_place k [] = false
  has_place k (x ∷ xs) = (x.0 == k) || has_place k xs
