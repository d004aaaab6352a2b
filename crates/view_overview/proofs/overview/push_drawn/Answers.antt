use Rattle.view_page.proofs.Joined.{◌▹◌}
use Rattle.view_overview.proofs.overview.push_drawn.Goals as goal

pub returns : goal.returns
returns c =
    c.in_ok-push_parts.ensures ▹ c.in_ok-push_each.ensures ▹ c.in_ok-push_parts-2.ensures
