-- An early end promises nothing of the outcome.
use Rattle.std.proofs.lemmas.Result.{err_from_is_err_and}
use Rattle.task_steps.proofs.listed.check.Goals as goal

pub returns-in_err-checked-clause-action : goal.returns-in_err-checked-clause-action
returns-in_err-checked-clause-action c =
    let p = err_from_is_err_and c.from_residual.result c.from_residual.ensures.1 in
    rw (p.1) tt

pub returns-in_err-checked-clause-acts : goal.returns-in_err-checked-clause-acts
returns-in_err-checked-clause-acts c =
    let p = err_from_is_err_and c.from_residual.result c.from_residual.ensures.1 in
    rw (p.1) tt
