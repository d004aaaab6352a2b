-- The rule was appended after all others, or memory ran out and all is as it was.
use Rattle.std.proofs.Common.{◌≡◌}
use Rattle.grow_list.specs.Shown.{IsSameList}
use Rattle.policy_cell.specs.declared.cell.RuleEntry.{RuleEntry}
use Rattle.world_locks.proofs.Lists.{rules_appended}
use Rattle.world_locks.proofs.Signals.{append_fails, append_met}
use Rattle.world_locks.proofs.tagged_rules.TaggedRules.append.Goals as goal

pub invariant_of-self : goal.invariant_of-self
invariant_of-self g c =
    let entry : RuleEntry = record { who = c.args.who; rule = c.args.rule.now } in
    record {
      rules = rules_appended (c.append.new.pass ≡ c.args.pass.now) g.N.Name.consts
          c.self.inside.rules c.append.new.self entry c.args.pass.now.number c.append.result
          c.append.ensures.kept c.append.ensures.list c.append.ensures.numbers
          c.append.ensures.err c.requires.number c.self.invariant.rules;
      spares = c.self.invariant.spares;
    }

pub returns-clause-met : goal.returns-clause-met
returns-clause-met g c =
    let entry : RuleEntry = record { who = c.args.who; rule = c.args.rule.now } in
    append_met c.args.pass.now c.append.new.pass entry c.self.inside.rules.appended.list
    c.append.new.self.appended.list c.appended-place.result c.append.result c.appended_at.result
    c.appended_at.ensures c.appended-place.ensures c.append.ensures.before c.append.ensures.seen
    c.append.ensures.list c.append.ensures.mine c.append.ensures.same_pass

pub returns-clause-err : goal.returns-clause-err
returns-clause-err g c =
    append_fails (IsSameList c.self.inside.rules.appended c.append.new.self.appended)
    (c.append.new.pass ≡ c.args.pass.now) c.appended-place.result c.append.result
    c.appended_at.result c.appended_at.ensures c.append.ensures.err
