use Rattle.std.proofs.Common.{ap}
use Rattle.std.proofs.lemmas.Result.{on_ok_weaker}
use Rattle.view_pages.specs.Section.{titled}
use Rattle.view_page.proofs.Joined.{as_parts, ◌▹◌}
use Rattle.view_pages.proofs.section.push_heading.Goals as goal

pub returns : goal.returns
returns c =
    on_ok_weaker c.push_length.result
    (λ pushed. c.in_ok-push_parts.ensures
    ▹ as_parts c.in_ok-push_titled.ensures (ap (titled 80) c.path.ensures)
    ▹ pushed)
    c.push_length.ensures
