use Rattle.std.proofs.lemmas.Result.{on_ok_weaker}
use Rattle.view_page.proofs.Joined.{◌▹◌}
use Rattle.view_pages.proofs.pair.push_both_tables.Goals as goal

pub returns : goal.returns
returns c =
    on_ok_weaker c.push_parts-3.result
    (λ pushed. c.in_ok-push_parts.ensures ▹ c.in_ok-push_side_tables.ensures ▹ c.in_ok-push_parts-2.ensures
    ▹ c.in_ok-push_side_tables-2.ensures ▹ pushed)
    c.push_parts-3.ensures
