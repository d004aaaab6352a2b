use Rattle.std.proofs.Common.{◌≡◌, ◌++◌, take}
use Rattle.view_page.specs.Pieces.{page_of}
use Rattle.view_page.proofs.pieces.push_pieces.Given as goal

-- the pieces so far have been appended
abbrev pub invariant-loop-piece : goal.invariant-loop-piece
invariant-loop-piece l =
    l.out.items ≡ l.fn.out.items ++ page_of l.text (take l.piece-index l.pieces)
