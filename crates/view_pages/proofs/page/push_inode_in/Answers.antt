use Rattle.std.proofs.Common.{ap}
use Rattle.std.proofs.lemmas.Result.{on_ok_weaker}
use Rattle.view_page.specs.declared.view.View.{View}
use Rattle.view_pages.specs.Section.{section_of}
use Rattle.view_pages.specs.declared.section.Detail.TheVariants as detail
use Rattle.view_page.proofs.Joined.{as_parts, ◌▹◌}
use Rattle.view_pages.proofs.page.push_inode_in.Goals as goal

pub returns : goal.returns
returns c =
    on_ok_weaker c.push_parts.result
    (λ pushed. c.in_ok-push_head.ensures
    ▹ as_parts c.in_ok-push_section.ensures
    (ap (λ (v : View).
    section_of c.args.text.now detail.Overview v c.args.windows.now c.args.inode.now)
    c.view_of-view.ensures)
    ▹ pushed)
    c.push_parts.ensures
