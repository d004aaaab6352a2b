use Rattle.std.proofs.lemmas.Result.{on_ok_weaker}
use Rattle.view_page.proofs.Joined.{◌▹◌}
use Rattle.view_pages.proofs.pair.push_undrawn_by.Goals as goal

pub returns : goal.returns
returns c =
    on_ok_weaker c.push_not_drawn.result
    (λ pushed. c.in_ok-push_heading.ensures ▹ c.in_ok-push_parts.ensures ▹ pushed)
    c.push_not_drawn.ensures
