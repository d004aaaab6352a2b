-- The looks leave the rules as they were.
use Rattle.std.proofs.Common.{◌∙◌, subst, sym}
use Rattle.policy_cell.specs.Policy.{LooksAt, PolicyValue}
use Rattle.world_locks.proofs.Lists.{rules_still}
use Rattle.world_locks.proofs.tagged_rules.TaggedRules.look_by_both.Goals as goal

pub look_by_both-requires-clause-first : goal.look_by_both-requires-clause-first
look_by_both-requires-clause-first g c = c.requires.first ∙ sym c.self.invariant.rules.name

pub look_by_both-requires-clause-second : goal.look_by_both-requires-clause-second
look_by_both-requires-clause-second g c = c.requires.second ∙ sym c.self.invariant.rules.name

pub invariant_of-self : goal.invariant_of-self
invariant_of-self g c = record {
  rules = rules_still g.N.Name.consts c.self.inside.rules c.look_by_both.new.self
      c.look_by_both.ensures.first.base c.look_by_both.ensures.first.list c.self.invariant.rules;
  spares = c.self.invariant.spares;
}

pub returns-clause-first : goal.returns-clause-first
returns-clause-first g c =
    subst (λ (x : PolicyValue). LooksAt x c.look_by_both.new.self c.args.first.now
    c.look_by_both.new.first) c.self.view_is c.look_by_both.ensures.first

pub returns-clause-second : goal.returns-clause-second
returns-clause-second g c =
    subst (λ (x : PolicyValue). LooksAt x c.look_by_both.new.self c.args.second.now
    c.look_by_both.new.second) c.self.view_is c.look_by_both.ensures.second
