-- The pieces of a drawing as parts of a page.
use Rattle.std.proofs.Common.{◌≡◌, ℕ, List, [], ◌∷◌, ◌++◌, map, refl, sym, ◌∙◌, ap}
use Rattle.view_page.specs.Pieces.{bytes_of as piece_bytes, page_of as pieces_of}
use Rattle.view_page.specs.declared.pieces.Piece.{Piece}
use Rattle.view_page.specs.Parts.{Pushed, page_of}
use Rattle.view_page.specs.declared.part.Part.TheVariants as part

pub drawn_page : (text : List ℕ) (ps : List Piece)
    → page_of text (map part.Drawn ps) ≡ pieces_of text ps
unfolding page_of
drawn_page text [] = refl
drawn_page text (p ∷ ps) = ap (λ (x : List ℕ). piece_bytes text p ++ x) (drawn_page text ps)

-- a text to which pieces of a drawing were appended
pub drew : (text out b : List ℕ) (ps : List Piece) → b ≡ out ++ pieces_of text ps
    → Pushed text out b (map part.Drawn ps)
drew text out b ps h =
    record { is = h ∙ ap (λ (x : List ℕ). out ++ x) (sym (drawn_page text ps)) }
