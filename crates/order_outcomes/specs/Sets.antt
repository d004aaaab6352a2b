-- A set of texts, as the list of its texts in rising byte order.
use Rattle.std.specs.Prelude.{ℕ, suc, List, [], ◌∷◌, Option, Some, None, option_map}
use Rattle.std.specs.Cmp.Lexicographic.{slice_cmp}
use Rattle.std.specs.Ordering.{nat_cmp}
use Rattle.std.specs.declared.cmp.Ordering.{Ordering}
use Rattle.std.specs.declared.cmp.Ordering.TheVariants.{Less, Equal, Greater}

-- how the text compares with the first text of the set; `rest` is the rest of the set with the text
abbrev pub with_by : Ordering → List ℕ → List ℕ → List (List ℕ) → List (List ℕ) → List (List ℕ)
with_by Less text x xs rest = text ∷ x ∷ xs
with_by Equal text x xs rest = x ∷ xs
with_by Greater text x xs rest = x ∷ rest

-- the set with one text more
abbrev pub with_text : List ℕ → List (List ℕ) → List (List ℕ)
with_text text [] = text ∷ []
with_text text (x ∷ xs) = with_by (slice_cmp nat_cmp text x) text x xs (with_text text xs)

abbrev pub place_by : Ordering → Option ℕ → Option ℕ
place_by Less rest = Some 0
place_by Equal rest = None
place_by Greater rest = option_map suc rest

-- the place at which the text goes into the set, if it isn't there yet
abbrev pub place_for : List ℕ → List (List ℕ) → Option ℕ
place_for text [] = Some 0
place_for text (x ∷ xs) = place_by (slice_cmp nat_cmp text x) (place_for text xs)
