use Rattle.std.proofs.lemmas.Result.{on_ok_weaker}
use Rattle.view_page.proofs.Joined.{◌▹◌}
use Rattle.view_tables.proofs.calls.push_task_by.Goals as goal

pub returns : goal.returns
returns c =
    on_ok_weaker c.push_parts.result
    (λ pushed. c.in_ok-push_task_head.ensures ▹ c.in_ok-push_chips.ensures ▹ c.in_ok-push_cut_calls.ensures
    ▹ c.in_ok-push_waits.ensures ▹ pushed)
    c.push_parts.ensures
