use Rattle.std.proofs.Common.{◌≡◌, [], ◌∙◌, ap}
use Rattle.view_layout.specs.Drawing.{Sketch, sketch_of}
use Rattle.view_layout.specs.SketchView.{parts_in}
use Rattle.view_drawing.specs.Drawing.{inode_pieces, sketch_pieces}
use Rattle.view_drawing.proofs.inode.push_inode.Goals as goal

pub returns : goal.returns
returns c =
    let same : parts_in c.parts.result ≡ sketch_of c.args.windows.now c.args.journal.now
    = c.parts.ensures ∙ c.in_ok-sketch.ensures in
    let pieces : c.deref.result.now
    ≡ inode_pieces c.args.view c.args.journal.now c.args.windows.now c.args.differs.now
    = c.deref.ensures.value ∙ (c.in_ok-pieces.ensures
    ∙ ap (λ (s : Sketch). sketch_pieces c.args.view [] s c.args.differs.now) same) in
    rw pieces at c.push_pieces.ensures
