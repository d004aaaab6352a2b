use Rattle.std.proofs.Common.{◌≡◌, take}
use Rattle.std.specs.List.{AllByRecursion}
use Rattle.policy_rules.specs.RuleValue.{IsRule}
use Rattle.policy_text.specs.Spelling.{policy_text}
use Rattle.policy_text.proofs.write.print.Given as goal

abbrev pub invariant-loop-rule : goal.invariant-loop-rule
invariant-loop-rule l = record {
  text : l.text.items ≡ policy_text (take l.rule-index l.rule-items);
  rules : AllByRecursion IsRule (take l.rule-index l.rule-items);
}
