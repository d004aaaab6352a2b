use Rattle.std.proofs.Common.{List, ◌++◌, append-nil, sym, ap, ◌∙◌}
use Rattle.std.proofs.lemmas.List.{take_all}
use Rattle.list_lemmas.proofs.Appending.{one_more}
use Rattle.view_page.specs.Pieces.{bytes_of, page_of}
use Rattle.view_page.specs.declared.own.Own.TheVariants as own
use Rattle.view_page.specs.declared.pieces.Piece.{Piece}
use Rattle.view_page.specs.declared.pieces.Piece.TheVariants as piece
use Rattle.view_page.proofs.pieces.push_pieces.Goals as goal

pub loop-piece-init : goal.loop-piece-init
loop-piece-init c = sym (append-nil c.args.out.now.items)

pub loop-piece-preserved : goal.loop-piece-preserved
loop-piece-preserved c =
    one_more c.args.out.now.items (bytes_of c.args.text.now) c.args.pieces.now
    c.loop-piece.piece-index (piece.Own own.Svg) c.loop-piece-test.true c.loop-piece.invariant
    c.in_ok-push_piece.ensures

pub returns : goal.returns
returns c =
    c.loop-piece.invariant
    ∙ ap (λ (pieces : List Piece). c.args.out.now.items ++ page_of c.args.text.now pieces)
    (take_all c.loop-piece.piece-index c.args.pieces.now c.loop-piece-test.false)
