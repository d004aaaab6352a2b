-- Of the parts of a page only the program's own make tags.
use Rattle.std.proofs.Common.{◌≡◌, ℕ, true, false, List, refl}
use Rattle.std.specs.List.{list_all}
use Rattle.view_page.specs.Escape.{is_safe}
use Rattle.view_page.specs.declared.pieces.Piece.TheVariants as piece
use Rattle.view_page.proofs.PiecesSafe.{only_own_pieces_make_tags}
use Rattle.view_page.specs.Parts.{bytes_of}
use Rattle.view_pages.specs.Promises.{is_own}
use Rattle.view_page.specs.declared.part.Part.{Part}
use Rattle.view_page.specs.declared.part.Part.TheVariants as part

pub tags_are_own : (text : List ℕ) (p : Part) → is_own p ≡ false
    → list_all is_safe (bytes_of text p) ≡ true
tags_are_own text (part.Number n) h = only_own_pieces_make_tags text (piece.Number n) refl
tags_are_own text (part.Text span) h = only_own_pieces_make_tags text (piece.Text span) refl
tags_are_own text (part.Drawn p) h = only_own_pieces_make_tags text p h
tags_are_own text (part.Frame f) h = cc
tags_are_own text (part.Section s) h = cc
tags_are_own text (part.Table t) h = cc
tags_are_own text (part.Told t) h = cc
tags_are_own text (part.Overview o) h = cc
tags_are_own text (part.Side s) h = cc
tags_are_own text part.Style h = cc
tags_are_own text part.Legend h = cc
