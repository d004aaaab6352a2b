-- Iterating over the pages of a content.
use Rattle.std.proofs.Common.{◌≡◌, ℕ, ◌+◌, ◌<◌, List, [], ◌∷◌, ◌++◌, get_or, length, take, sym, ap, ◌∙◌}
use Rattle.std.specs.List.{concat}
use Rattle.std.proofs.lemmas.List.{append-nil, take_more}
use Rattle.std.proofs.lemmas.List.Folds.{concat-append}

-- the concatenated bytes of one more page
pub concat_more : (pages : List (List ℕ)) (i : ℕ) (page : List ℕ) → i < length pages
    → page ≡ get_or pages i page
    → concat (take (i + 1) pages) ≡ concat (take i pages) ++ page
concat_more pages i page below is =
    ap concat (take_more pages i page below
    ∙ ap (λ (p : List ℕ). take i pages ++ p ∷ []) (sym is))
    ∙ concat-append (take i pages) (page ∷ [])
    ∙ ap (λ (l : List ℕ). concat (take i pages) ++ l) (append-nil page)
