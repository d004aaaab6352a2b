-- Loops that have still to append what the rest of a list gives.
use Rattle.std.proofs.Common.{◌≡◌, ℕ, ◌+◌, ◌<◌, ◌≤◌, List, [], ◌∷◌, ◌++◌, append_assoc, drop, get_or, length, ap, sym, ◌∙◌}
use Rattle.std.proofs.lemmas.List.{at_drop_all, at_drop_more}

-- what one more item gives was appended, and what the later ones give is left
pub one_less : {A B : Type 0} {next total : List B} (now : List B) (rest : List A → List B)
    (xs : List A) (i : ℕ) (d : A) (one after : List B) → i < length xs
    → rest (get_or xs i d ∷ drop (i + 1) xs) ≡ one ++ after → now ++ rest (drop i xs) ≡ total
    → next ≡ now ++ one → next ++ after ≡ total
one_less {A} {B} {next} {total} now rest xs i d one after within is so_far pushed =
    ap (λ (x : List B). x ++ after) pushed
    ∙ (append_assoc now one after
    ∙ (ap (λ (x : List B). now ++ x) (sym (at_drop_more rest xs i d within ∙ is)) ∙ so_far))

-- what no item gives is left
pub none_left : {A B : Type 0} {total : List B} (now : List B) (rest : List A → List B)
    (xs : List A) (i : ℕ) → length xs ≤ i → now ++ rest (drop i xs) ≡ total
    → now ++ rest [] ≡ total
none_left {A} {B} {total} now rest xs i past so_far =
    ap (λ (x : List B). now ++ x) (sym (at_drop_all rest xs i past)) ∙ so_far
