use Rattle.std.proofs.lemmas.Result.{on_ok_weaker}
use Rattle.view_page.proofs.Joined.{◌▹◌}
use Rattle.view_tables.proofs.tables.push_registers.Goals as goal

pub returns : goal.returns
returns c =
    on_ok_weaker c.push_parts-2.result
    (λ pushed. c.in_ok-push_parts.ensures ▹ c.in_ok-push_register_rows.ensures ▹ pushed)
    c.push_parts-2.ensures
