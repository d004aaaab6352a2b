use Rattle.std.proofs.Common.{[], ◌∷◌, ap}
use Rattle.std.proofs.lemmas.Result.{on_ok_weaker}
use Rattle.view_page.specs.declared.part.Part.{Part}
use Rattle.view_page.proofs.Joined.{as_parts, ◌▹◌}
use Rattle.view_tables.proofs.calls.push_chip.Goals as goal

pub returns : goal.returns
returns c =
    on_ok_weaker c.push_reply.result
    (λ pushed. as_parts c.in_ok-push_parts.ensures (ap (λ (p : Part). p ∷ []) c.chip_is.ensures)
    ▹ c.in_ok-push_call_at.ensures ▹ pushed)
    c.push_reply.ensures
