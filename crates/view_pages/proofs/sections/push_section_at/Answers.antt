use Rattle.std.proofs.Common.{List, ap, ◌∙◌}
use Rattle.std.specs.Prelude.{slice_get}
use Rattle.std.proofs.lemmas.Result.{on_ok_weaker}
use Rattle.view_page.specs.declared.view.View.{View}
use Rattle.view_page.specs.journals.declared.window.Window.{Window}
use Rattle.view_pages.specs.Section.{view_of}
use Rattle.view_pages.specs.Sections.{section_if}
use Rattle.view_page.proofs.Joined.{as_parts}
use Rattle.view_pages.proofs.sections.push_section_at.Goals as goal

pub returns : goal.returns
returns c =
    on_ok_weaker c.push_section_if.result
    (λ pushed. as_parts pushed
    (ap (λ (v : View). section_if c.args.text.now c.args.detail v
    c.deref.result.now (slice_get c.args.inodes.now c.args.number)) c.view_of-view.ensures
    ∙ ap (λ (ws : List Window). section_if c.args.text.now c.args.detail
    (view_of c.args.side c.args.number) ws (slice_get c.args.inodes.now c.args.number))
    (c.deref.ensures.value ∙ c.in_ok-windows.ensures)))
    c.push_section_if.ensures
