-- An early end promises nothing of the outcome.
use Rattle.std.proofs.lemmas.Result.{err_from_is_err_and}
use Rattle.task_steps.proofs.listed.finish.Goals as goal

pub returns-in_err-finish-clause-acts : goal.returns-in_err-finish-clause-acts
returns-in_err-finish-clause-acts c =
    let p = err_from_is_err_and c.from_residual.result c.from_residual.ensures.1 in
    rw (p.1) tt

pub returns-in_err-finish-clause-hashes : goal.returns-in_err-finish-clause-hashes
returns-in_err-finish-clause-hashes c =
    let p = err_from_is_err_and c.from_residual.result c.from_residual.ensures.1 in
    rw (p.1) tt
