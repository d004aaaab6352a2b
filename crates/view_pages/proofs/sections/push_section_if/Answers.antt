use Rattle.std.proofs.Common.{Option, Some, ap, sym, ◌∙◌}
use Rattle.std.proofs.lemmas.Option.{slice_get-get_or, slice_get_past}
use Rattle.std.proofs.lemmas.Result.{on_ok_weaker}
use Rattle.view_page.specs.journals.reading.Report.{InodeValue}
use Rattle.view_page.proofs.Joined.{as_parts}
use Rattle.view_pages.specs.Sections.{section_if}
use Rattle.view_pages.proofs.sections.push_section_if.Goals as goal

pub returns-in-Some : goal.returns-in-Some
returns-in-Some c =
    let found = c.in-Some.ensures.lookup in
    on_ok_weaker c.push_section.result
    (λ pushed. as_parts pushed
    (ap (λ (o : Option InodeValue).
    section_if c.args.text.now c.args.detail c.args.view c.args.windows.now o)
    (sym (slice_get-get_or c.args.inodes.now c.args.number c.in-Some.inode.now found.3.0
    ∙ ap (λ (i : InodeValue). Some i) (sym found.1)))))
    c.push_section.ensures

pub returns-in-None : goal.returns-in-None
returns-in-None c =
    on_ok_weaker c.push_parts.result
    (λ pushed. as_parts pushed
    (ap (λ (o : Option InodeValue).
    section_if c.args.text.now c.args.detail c.args.view c.args.windows.now o)
    (sym (slice_get_past c.args.inodes.now c.args.number c.in-None.ensures.lookup.3))))
    c.push_parts.ensures
