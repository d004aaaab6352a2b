-- The first items of two lists that are walked together.
use Rattle.std.proofs.Common.{◌≡◌, ℕ, ◌+◌, ◌<◌, List, [], ◌∷◌, ◌++◌, length, take, get_or, sym, ◌∙◌}
use Rattle.std.proofs.lemmas.List.{take_more}

-- the first items are the same, and so is the next one
pub take_next : {X : Type 0} (xs ys : List X) (k : ℕ) (x y : X) → k < length xs → k < length ys
    → x ≡ get_or xs k x → y ≡ get_or ys k y → x ≡ y → take k xs ≡ take k ys
    → take (k + 1) xs ≡ take (k + 1) ys
take_next xs ys k x y lt lt2 is is2 same before =
    take_more xs k x lt
    ∙ (λ i. before i ++ (sym is ∙ same ∙ is2) i ∷ [])
    ∙ sym (take_more ys k y lt2)
