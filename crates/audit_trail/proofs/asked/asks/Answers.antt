use Rattle.std.proofs.Common.{Some, sym, ◌∙◌, ap}
use Rattle.std.proofs.lemmas.Option.{slice_get-get_or, slice_get_past}
use Rattle.world_model.specs.model.matching.Decision.{is_done}
use Rattle.world_model.specs.model.policy.RuleValue.{RuleValue}
use Rattle.audit_trail.specs.Asked.{asks}
use Rattle.audit_trail.proofs.asked.asks.Goals as goal

pub returns-in-Some : goal.returns-in-Some
returns-in-Some c =
    let found = c.in-Some.ensures.lookup in
    c.is_done.ensures
    ∙ ap (λ (r : RuleValue). is_done r.act) c.rule.view_is
    ∙ sym (ap asks (slice_get-get_or c.args.rules.now c.args.line c.in-Some.rule.now found.3.0
    ∙ ap (λ (r : RuleValue). Some r) (sym found.1)))

pub returns-in-None : goal.returns-in-None
returns-in-None c =
    sym (ap asks (slice_get_past c.args.rules.now c.args.line c.in-None.ensures.lookup.3))
