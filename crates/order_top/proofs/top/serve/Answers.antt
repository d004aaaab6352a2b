use Rattle.std.proofs.Common.{ap, map, string_bytes, subst, sym, ◌∙◌}
use Rattle.order_top.specs.NotDone.{told_of}
use Rattle.order_top.specs.Served.{IsStatus, Told}
use Rattle.order_top.specs.Words.{asked_of}
use Rattle.order_top.proofs.Reasons.{is_status, line_is}
use Rattle.order_top.proofs.Serving.{complete_not_done, not_written, served_done, served_not_done}
use Rattle.order_top.proofs.top.serve.Goals as goal

pub returns-in-Ok-clause-served : goal.returns-in-Ok-clause-served
returns-in-Ok-clause-served g c =
    served_done (asked_of (map string_bytes c.args.words.now)) _ _ _ _ _ c.in-Ok.ensures.input

pub returns-in-Err-clause-served : goal.returns-in-Err-clause-served
returns-in-Err-clause-served g c =
    served_not_done (asked_of (map string_bytes c.args.words.now)) _ _ _ _ c.in-Err.why _
    c.status.result c.line.result.now c.status.ensures c.line.ensures c.in-Err.ensures.input
    c.tell.ensures

pub returns-in-Err-clause-complete : goal.returns-in-Err-clause-complete
returns-in-Err-clause-complete g c =
    complete_not_done (asked_of (map string_bytes c.args.words.now)) _ _ _ _ c.in-Err.why _ _
    c.status.result c.status.ensures c.in-Err.ensures.usage.0 c.in-Err.ensures.whole_input
    c.in-Err.ensures.read_fault c.in-Err.ensures.write_fault c.in-Err.ensures.input

pub returns-in-Err-clause-statuses : goal.returns-in-Err-clause-statuses
returns-in-Err-clause-statuses g c =
    subst IsStatus (sym c.status.ensures) (is_status c.in-Err.why)

pub returns-in-Err-clause-untold : goal.returns-in-Err-clause-untold
returns-in-Err-clause-untold g c = λ is.
    absurd (not_written c.in-Err.why (sym c.status.ensures ∙ is))

pub returns-in-Err-clause-told : goal.returns-in-Err-clause-told
returns-in-Err-clause-told g c = λ _ refused many.
    subst (Told _ _ _ _)
    (c.line.ensures
    ∙ line_is c.in-Err.why (λ is. refused (c.status.ensures ∙ is))
    (λ is. many (c.status.ensures ∙ is))
    ∙ ap told_of (sym c.status.ensures)) c.tell.ensures
