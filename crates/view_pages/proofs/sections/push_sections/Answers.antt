use Rattle.std.proofs.Common.{ℕ, List, ap}
use Rattle.std.proofs.lemmas.Result.{on_ok_weaker}
use Rattle.view_pages.specs.Sections.{sections_of}
use Rattle.view_pages.specs.declared.section.Detail.TheVariants as detail
use Rattle.view_page.proofs.Joined.{as_parts, ◌▹◌}
use Rattle.view_pages.proofs.sections.push_sections.Goals as goal

pub returns : goal.returns
returns c =
    on_ok_weaker c.push_sections_of-2.result
    (λ pushed. as_parts c.in_ok-push_sections_of.ensures
    (ap (λ (ns : List ℕ). sections_of c.args.text.now detail.Overview c.args.side
    c.args.shown.now c.args.inodes.now ns) c.first_of-first.ensures)
    ▹ as_parts pushed
    (ap (λ (ns : List ℕ). sections_of c.args.text.now detail.Windows c.args.side
    c.args.shown.now c.args.inodes.now ns) c.others_of-others.ensures))
    c.push_sections_of-2.ensures
