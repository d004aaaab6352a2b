-- Copies of the elements of a list, in order.
use Rattle.std.proofs.Common.{◌≡◌, ℕ, ◌+◌, ◌<◌, List, [], ◌∷◌, ◌++◌, length, take, get_or, sym, ◌∙◌}
use Rattle.std.proofs.lemmas.List.{take_more}

-- a copy of the next element is appended
pub one_copied : {A : Type 0} (xs copies more : List A) (i : ℕ) (x y : A) → i < length xs
    → x ≡ get_or xs i x → y ≡ x → copies ≡ take i xs → more ≡ copies ++ y ∷ []
    → more ≡ take (i + 1) xs
one_copied xs copies more i x y within is same so_far pushed =
    pushed ∙ (λ j. so_far j ++ (same ∙ is) j ∷ []) ∙ sym (take_more xs i x within)
