use Rattle.std.proofs.Common.{◌∙◌, ap}
use Rattle.rule_match.specs.Decision.{action_of}
use Rattle.rule_match.specs.Deciders.{carried_at}
use Rattle.rule_match.proofs.Walks.{decided_by}
use Rattle.rule_match.proofs.index.Index.decide.Goals as goal

pub returns : goal.returns
returns c =
    let found = c.deciders.result in
    c.action.ensures
    ∙ ap (λ rules. action_of (carried_at rules c.deciders.result.measuring)
    (carried_at rules c.deciders.result.appraising) (carried_at rules c.deciders.result.auditing)
    (carried_at rules c.deciders.result.hashing)) (c.deref.ensures.value ∙ c.self.view_is)
    ∙ decided_by c.args.a.now c.args.self.now c.deciders.result c.deciders.ensures
