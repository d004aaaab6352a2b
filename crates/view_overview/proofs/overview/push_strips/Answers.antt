use Rattle.view_page.proofs.Joined.{◌▹◌}
use Rattle.view_overview.proofs.overview.push_strips.Goals as goal

pub returns : goal.returns
returns c =
    c.in_ok-push_counts.ensures ▹ c.in_ok-push_counts-2.ensures ▹ c.in_ok-push_marks.ensures
    ▹ c.in_ok-push_marks-2.ensures ▹ c.in_ok-push_marks-3.ensures
    ▹ c.in_ok-push_marks-4.ensures
