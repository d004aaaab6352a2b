-- The condition under which a rule matches an access: that of each of its keys holds
-- (Documentation/ABI/testing/ima_policy).
use Rattle.std.specs.Prelude.{Bool}
use Rattle.std.specs.List.{list_all}
use Rattle.policy_rules.specs.Key.{keys, row}
use Rattle.policy_rules.specs.RuleValue.{RuleValue}
use Rattle.policy_rules.specs.declared.access.Access.{Access}

-- a line without conditions matches every access
abbrev pub rule_matches : RuleValue → Access → Bool
rule_matches r a = list_all (λ k. (row k).holds r a) keys
