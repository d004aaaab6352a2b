use Rattle.std.proofs.lemmas.Result.{on_ok_weaker}
use Rattle.view_page.proofs.Joined.{◌▹◌}
use Rattle.view_pages.proofs.section.push_section_by.Goals as goal

pub returns : goal.returns
returns c =
    on_ok_weaker c.push_at_end.result
    (λ pushed. c.in_ok-push_heading.ensures ▹ c.in_ok-push_marked.ensures ▹ c.in_ok-push_parts.ensures
    ▹ c.in_ok-push_drawn.ensures ▹ pushed)
    c.push_at_end.ensures
