-- The rules belong to the constants, as the invariant says of them.
use Rattle.std.proofs.Common.{◌∙◌, ap, subst}
use Rattle.policy_cell.specs.Policy.{PolicyValue, in_force}
use Rattle.world_close.specs.worlds.World.{AreRulesOf}
use Rattle.world_locks.proofs.tagged_rules.TaggedRules.in_force.Goals as goal

pub returns-clause-kept : goal.returns-clause-kept
returns-clause-kept g c =
    subst (λ (x : PolicyValue). AreRulesOf g.N.Name.consts x) c.self.view_is
    c.self.invariant.rules

pub returns-clause-index : goal.returns-clause-index
returns-clause-index g c =
    c.rules.ensures ∙ ap (λ (x : PolicyValue). in_force x) c.self.view_is
