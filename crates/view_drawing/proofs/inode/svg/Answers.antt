use Rattle.std.specs.Prelude.{IfOk}
use Rattle.std.proofs.Common.{◌≡◌, List, [], subst, ◌∙◌, ap}
use Rattle.view_page.specs.journals.declared.window.Window.{Window}
use Rattle.view_page.specs.journals.reading.words.declared.event.Event.{Event}
use Rattle.view_layout.specs.Drawing.{Sketch, sketch_of}
use Rattle.view_layout.specs.SketchView.{parts_in}
use Rattle.view_drawing.specs.Drawing.{rules_pieces, sketch_pieces, view_alone, windows_or}
use Rattle.view_page.specs.Pieces.{page_of}
use Rattle.view_drawing.proofs.inode.svg.Goals as goal

pub returns : goal.returns
returns c =
    let journal : List Event = c.args.journal.now in
    let windows : c.deref.result.now ≡ windows_or c.args.range journal
    = c.deref.ensures.value ∙ c.in_ok-windows.ensures in
    let sketch : parts_in c.parts.result ≡ sketch_of (windows_or c.args.range journal) journal
    = c.parts.ensures
    ∙ (c.in_ok-sketch.ensures ∙ ap (λ (ws : List Window). sketch_of ws journal) windows) in
    subst (λ (s : Sketch). IfOk c.file_of.result (λ v. v.items
    ≡ page_of c.args.text.now (sketch_pieces (view_alone c.args.inode) rules_pieces s [])))
    sketch c.file_of.ensures
