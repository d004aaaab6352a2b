-- The outcome in an event's line.
use Rattle.std.proofs.Common.{◌≡◌, ℕ, zero, suc, ◌<◌, false, nat_eq, List, [], ◌∷◌, length, take, drop, codes, refl, arith}
use Rattle.std.specs.Cmp.Lexicographic.{pointwise}
use Rattle.view_page.specs.Pieces.{outcome_in}

-- if no sign begins at a place, the outcome is what it is from the next place on
pub not_here : (at : ℕ) (line : List ℕ) → at < length line
    → pointwise nat_eq (take 3 (drop at line)) (codes " = ") ≡ false
    → outcome_in (drop (suc at) line) ≡ outcome_in (drop at line)
not_here zero [] h f = refl
not_here (suc at) [] h f = refl
not_here zero (b ∷ bytes) h f = rw f refl
not_here (suc at) (b ∷ bytes) h f = not_here at bytes (omega (arith, h)) f
