use Rattle.std.proofs.Common.{ap}
use Rattle.std.proofs.lemmas.Result.{on_ok_weaker}
use Rattle.view_tables.specs.Entries.{digest}
use Rattle.view_page.proofs.Joined.{as_parts, ◌▹◌}
use Rattle.view_tables.proofs.entries.push_row.Goals as goal

pub returns : goal.returns
returns c =
    on_ok_weaker c.push_parts.result
    (λ pushed. c.in_ok-push_row_head.ensures
    ▹ as_parts c.in_ok-push_digest.ensures (ap (digest c.args.violates) c.word_3.ensures)
    ▹ c.in_ok-push_row_name.ensures ▹ c.in_ok-push_by.ensures ▹ pushed)
    c.push_parts.ensures
