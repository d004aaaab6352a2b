-- The rules in force during a run.
use Rattle.std.specs.Prelude.{◌≡◌, List, ◌++◌, map}
use mathlib.Core.List.{IsPrefix}
use Rattle.grow_list.specs.Shown.{Grown, IsSameList, Passed}
use Rattle.rule_match.specs.policy.RuleValue.{RuleValue}
use Rattle.policy_cell.specs.declared.cell.RuleEntry.{RuleEntry}

-- the initial rules, and the growing list of the appended ones
pub record PolicyValue : Type 0 where
  pub base : List RuleValue
  pub appended : Grown RuleEntry

-- the rules in these entries
abbrev pub rules_in : List RuleEntry → List RuleValue
rules_in entries = map (λ e. e.rule) entries

-- the initial rules, followed by the appended ones
abbrev pub in_force : PolicyValue → List RuleValue
in_force p = p.base ++ rules_in p.appended.list

-- a look of a pass at the appended rules, which leaves the rules as they were
pub record LooksAt (rules rules2 : PolicyValue) (q q2 : Passed RuleEntry) : Type 0 where
  pub base : rules2.base ≡ rules.base
  pub list : IsSameList rules.appended rules2.appended
  pub before : IsPrefix q.seen rules.appended.list
  pub seen : q2.seen ≡ rules2.appended.list
  pub mine : q2.mine ≡ q.mine
  pub same : (q2.name ≡ q.name) × (q2.number ≡ q.number)
