use Rattle.std.proofs.lemmas.Result.{on_ok_weaker}
use Rattle.view_page.proofs.Joined.{◌▹◌}
use Rattle.view_pages.proofs.section.push_marked_by.Goals as goal

pub returns : goal.returns
returns c =
    on_ok_weaker c.push_more.result
    (λ pushed. c.in_ok-push_violations.ensures ▹ pushed)
    c.push_more.ensures
