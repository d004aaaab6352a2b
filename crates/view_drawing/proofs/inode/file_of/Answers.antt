use Rattle.std.proofs.Common.{ℕ, List, [], ◌++◌, ◌∙◌, ap}
use Rattle.view_layout.specs.SketchView.{parts_in}
use Rattle.view_drawing.specs.Drawing.{rules_pieces, sketch_pieces}
use Rattle.view_page.specs.Pieces.{page_of}
use Rattle.view_page.specs.declared.pieces.Piece.{Piece}
use Rattle.view_page.specs.declared.view.View.{View}
use Rattle.view_drawing.proofs.inode.file_of.Goals as goal

pub returns : goal.returns
returns c =
    let text : List ℕ = c.args.text.now in
    c.in_ok-push_pieces.ensures
    ∙ (ap (λ (x : List ℕ). x ++ page_of text c.deref.result.now) c.new-out.ensures.items
    ∙ (ap (λ (x : List Piece). page_of text x)
    (c.deref.ensures.value ∙ c.in_ok-pieces.ensures)
    ∙ ap (λ (v : View).
    page_of text (sketch_pieces v rules_pieces (parts_in c.args.parts) []))
    c.view_alone.ensures))
