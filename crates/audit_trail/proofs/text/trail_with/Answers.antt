use Rattle.std.proofs.Common.{List, ℕ, ◌++◌, ◌∙◌, ap}
use Rattle.std.proofs.lemmas.Result.{err_from_is_err_and}
use Rattle.world_model.specs.model.events.forms.Words.{text_of}
use Rattle.audit_trail.specs.Trail.{trail_lines}
use Rattle.audit_trail.proofs.text.trail_with.Goals as goal

pub returns : goal.returns
returns c = λ ls count body.
    c.in_ok-push_trail.ensures ls count body
    ∙ ap (λ (l : List ℕ). l ++ text_of (trail_lines ls)) c.new-out.ensures.items

-- without an answer nothing is said of the text
pub returns-in_err-push_trail : goal.returns-in_err-push_trail
returns-in_err-push_trail c = λ ls count body.
    let p = err_from_is_err_and c.from_residual.result c.from_residual.ensures.1 in
    rw (p.1) tt
