use Rattle.std.proofs.lemmas.Result.{on_ok_weaker}
use Rattle.view_page.proofs.Joined.{◌▹◌}
use Rattle.view_pages.proofs.pair.push_side_by.Goals as goal

pub returns : goal.returns
returns c =
    on_ok_weaker c.push_at_end.result
    (λ pushed. c.in_ok-push_side_heading.ensures ▹ c.in_ok-push_compared_by.ensures ▹ pushed)
    c.push_at_end.ensures
