-- The deciding lines, as far as a walk from the first line on has found them.
use Rattle.std.specs.Prelude.{◌≡◌, ℕ, Bool, ◌&&◌, List, Option, Some, is_some, slice_get, if◌then◌else◌}
use Rattle.std.specs.Option.{option_and_then, option_or}
use Rattle.policy_rules.specs.RuleValue.{RuleValue}
use Rattle.policy_rules.specs.declared.access.Access.{Access}
use Rattle.policy_rules.specs.declared.rule.Act.{Act}
use Rattle.rule_match.specs.Conditions.{rule_matches}
use Rattle.rule_match.specs.Decision.{carried_out, is_of, place_of_first}
use Rattle.rule_match.specs.declared.deciders.Deciders.{Deciders}
use Rattle.rule_match.specs.declared.family.Family.{Family}
use Rattle.rule_match.specs.declared.family.Family.TheVariants.{Measuring, Appraising, Auditing, Hashing}

-- the family's deciding line, after the walk has passed a line that matches
abbrev pub decided_with : Option ℕ → Family → Act → ℕ → Option ℕ
decided_with earlier f act line = if is_of f act then option_or earlier (Some line) else earlier

abbrev pub after_line : Access → ℕ → RuleValue → Deciders → Deciders
after_line a line r d =
    if rule_matches r a then record {
      measuring = decided_with d.measuring Measuring r.act line;
      appraising = decided_with d.appraising Appraising r.act line;
      auditing = decided_with d.auditing Auditing r.act line;
      hashing = decided_with d.hashing Hashing r.act line;
    } else d

abbrev pub is_complete : Deciders → Bool
is_complete d =
    is_some d.measuring && is_some d.appraising && is_some d.auditing && is_some d.hashing

-- the rule at this index, if it requires something to be done
abbrev pub carried_at : List RuleValue → Option ℕ → Option RuleValue
carried_at rules place = carried_out (option_and_then (slice_get rules) place)

-- the indices are those of the first lines of these rules that decide, family by family
pub record AreDeciders (a : Access) (rules : List RuleValue) (d : Deciders) : Type 0 where
  pub measuring : d.measuring ≡ place_of_first Measuring rules a
  pub appraising : d.appraising ≡ place_of_first Appraising rules a
  pub auditing : d.auditing ≡ place_of_first Auditing rules a
  pub hashing : d.hashing ≡ place_of_first Hashing rules a
