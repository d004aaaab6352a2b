use Rattle.std.proofs.lemmas.Result.{on_ok_weaker}
use Rattle.view_page.proofs.Joined.{◌▹◌}
use Rattle.view_pages.proofs.page.push_tables_by.Goals as goal

pub returns : goal.returns
returns c =
    on_ok_weaker c.push_calls.result
    (λ pushed. c.in_ok-push_list.ensures ▹ c.in_ok-push_registers.ensures ▹ c.in_ok-push_rules.ensures
    ▹ pushed)
    c.push_calls.ensures
