use Rattle.std.proofs.Common.{◌≡◌, ℕ, List, ◌++◌, ◌∙◌, ap}
use Rattle.std.proofs.lemmas.Result.{on_ok_weaker}
use Rattle.view_layout.specs.Drawing.{end_of, highest}
use Rattle.view_drawing.specs.Drawing.{head_of}
use Rattle.view_page.specs.declared.pieces.Piece.{Piece}
use Rattle.view_drawing.proofs.inode.push_head.Goals as goal

pub returns : goal.returns
returns c =
    let out : List Piece = c.args.out.now.items in
    let end : ℕ = end_of c.args.parts.columns.now in
    let up : c.from-up.result ≡ highest c.args.parts.flags.now
    = c.from-up.ensures ∙ c.highest.ensures in
    on_ok_weaker c.add.result
    (λ added. added
    ∙ (ap (λ (x : ℕ). out ++ head_of x c.from-up.result c.from.result) c.end_of-width.ensures.is
    ∙ (ap (λ (x : ℕ). out ++ head_of end x c.from.result) up
    ∙ ap (λ (x : ℕ). out ++ head_of end (highest c.args.parts.flags.now) x) c.from.ensures)))
    c.add.ensures
