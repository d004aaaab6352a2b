-- A part of a list that has one item.
use Rattle.std.proofs.Common.{◌≡◌, ℕ, ◌+◌, List, [], ◌∷◌, take, drop, drop-cons, Some, ap, ◌∙◌, slice_get, arith}
use Rattle.std.specs.Prelude.{◌-◌}
use Rattle.std.proofs.lemmas.Option.{get_or_from_slice_get, slice_get_within}

one : {X : Type 0} (xs : List X) (i n : ℕ) (x : X) → n ≡ 1 → slice_get xs i ≡ Some x
    → take n (drop i xs) ≡ x ∷ []
one xs i n x is at =
    ap (λ m. take m (drop i xs)) is
    ∙ ap (take 1) (drop-cons xs i x (slice_get_within xs i x at))
    ∙ ap (λ y. y ∷ []) (get_or_from_slice_get xs i x x at)

-- the item at a place, alone
pub single : {X : Type 0} (xs : List X) (i : ℕ) (x : X) → slice_get xs i ≡ Some x
    → take (i + 1 - i) (drop i xs) ≡ x ∷ []
single xs i x at = one xs i (i + 1 - i) x (omega arith) at
