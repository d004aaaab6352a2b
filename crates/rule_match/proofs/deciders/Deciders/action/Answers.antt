use Rattle.std.proofs.Common.{◌≡◌, None, Some, Option, Bor, refl, ◌∙◌}
use Rattle.std.specs.Option.{option_copied}
use Rattle.std.specs.Prelude.{is_some}
use Rattle.rule_match.specs.Decision.{action_of}
use Rattle.rule_match.proofs.Walks.{action_joined}
use Rattle.rule_match.proofs.deciders.Deciders.action.Goals as goal

copied_some : {T : Type 0} (o : Option (Bor T)) → is_some o ≡ is_some (option_copied o)
copied_some None = refl
copied_some (Some x) = refl

pub returns : goal.returns
returns c =
    let measured = c.with_measure-measured.ensures None None None c.none.ensures in
    let both = c.with_appraise-action.ensures (option_copied c.carried_out.result) None None
    measured in
    action_joined _ (option_copied c.carried_out.result) (option_copied c.carried_out-2.result)
    (option_copied c.carried_out-3.result) (option_copied c.carried_out-4.result) c.is_some.result
    c.is_some-2.result
    (c.action.view_is ∙ both) (c.is_some.ensures ∙ copied_some c.carried_out-3.result)
    (c.is_some-2.ensures ∙ copied_some c.carried_out-4.result)
    ∙ (λ i. action_of (c.carried_out.ensures i) (c.carried_out-2.ensures i)
    (c.carried_out-3.ensures i) (c.carried_out-4.ensures i))
