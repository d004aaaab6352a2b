-- The pages of a content, one after the other.
use Rattle.std.proofs.Common.{◌≡◌, ℕ, ◌+◌, ◌<◌, Bool, true, false, List, [], ◌∷◌, ◌++◌, get_or, length, take, refl, sym, ◌∙◌, ap}
use Rattle.std.specs.Prelude.{not}
use Rattle.std.specs.Str.{bytes_eq}
use Rattle.std.specs.List.{concat}
use Rattle.std.proofs.lemmas.List.{append-nil, take_more}
use Rattle.std.proofs.lemmas.List.Folds.{concat-append}
use Rattle.std.proofs.lemmas.Slice.Eq.{bytes_eq-Decides}

-- the bytes of one page more
pub concat_more : (pages : List (List ℕ)) (i : ℕ) (page : List ℕ) → i < length pages
    → page ≡ get_or pages i page
    → concat (take (i + 1) pages) ≡ concat (take i pages) ++ page
concat_more pages i page below is =
    ap concat (take_more pages i page below
    ∙ ap (λ (p : List ℕ). take i pages ++ p ∷ []) (sym is))
    ∙ concat-append (take i pages) (page ∷ [])
    ∙ ap (λ (l : List ℕ). concat (take i pages) ++ l) (append-nil page)

-- two texts of bytes that aren't told apart are equal
pub same_bytes : (a b : List ℕ) (differ : Bool) → differ ≡ not (bytes_eq a b) → differ ≡ false
    → a ≡ b
same_bytes a b differ is same = (bytes_eq-Decides a b).0 (turn (bytes_eq a b) (sym is ∙ same)) where
  turn : (t : Bool) → not t ≡ false → t ≡ true
  turn true e = refl
  turn false e = cc
