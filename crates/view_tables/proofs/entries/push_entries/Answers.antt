use Rattle.std.proofs.lemmas.Result.{on_ok_weaker}
use Rattle.view_page.proofs.Joined.{◌▹◌}
use Rattle.view_tables.proofs.entries.push_entries.Goals as goal

pub returns : goal.returns
returns c =
    on_ok_weaker c.push_hidden.result
    (λ pushed. c.in_ok-push_parts.ensures ▹ c.in_ok-push_rows.ensures ▹ c.in_ok-push_parts-2.ensures
    ▹ pushed)
    c.push_hidden.ensures
