-- First match: the action that the rules require for an access. In each family of actions the first
-- line that matches decides, and later lines of that family are ignored. No family affects another.
use Rattle.std.specs.Prelude.{ℕ, Bool, true, false, ◌&&◌, List, Option, Some, None, is_some, unwrap_or, find, if◌then◌else◌}
use Rattle.std.specs.List.{position_from}
use Rattle.std.specs.Option.{option_and_then, option_map_or}
use Rattle.policy_rules.specs.meta.declared.identity.Cred.{Cred}
use Rattle.policy_rules.specs.meta.declared.identity.Meta.{Meta}
use Rattle.policy_rules.specs.meta.declared.appraisal.Need.TheVariants as need
use Rattle.policy_rules.specs.meta.Registers.{default_pcr}
use Rattle.policy_rules.specs.ActionValue.{ActionValue}
use Rattle.policy_rules.specs.RuleValue.{RuleValue}
use Rattle.policy_rules.specs.declared.access.Access.{Access}
use Rattle.policy_rules.specs.declared.access.Super.{Super}
use Rattle.policy_rules.specs.declared.rule.Act.{Act}
use Rattle.policy_rules.specs.declared.rule.Act.TheVariants as act
use Rattle.policy_rules.specs.declared.rule.Func.{Func}
use Rattle.rule_match.specs.Conditions.{rule_matches}
use Rattle.rule_match.specs.declared.family.Family.{Family}
use Rattle.rule_match.specs.declared.family.Family.TheVariants.{Measuring, Appraising, Auditing, Hashing}

-- whether the action belongs to the family
abbrev pub is_of : Family → Act → Bool
is_of Measuring act.Measure = true
is_of Measuring act.DontMeasure = true
is_of Appraising act.Appraise = true
is_of Appraising act.DontAppraise = true
is_of Auditing act.Audit = true
is_of Auditing act.DontAudit = true
is_of Hashing act.Hash = true
is_of Hashing act.DontHash = true
is_of _ _ = false

-- a `dont_` line requires nothing to be done
abbrev pub is_done : Act → Bool
is_done act.Measure = true
is_done act.Appraise = true
is_done act.Audit = true
is_done act.Hash = true
is_done _ = false

-- whether the line decides on the access for the family, unless an earlier line does
abbrev pub decides : Family → Access → RuleValue → Bool
decides f a r = is_of f r.act && rule_matches r a

abbrev pub first_of : Family → List RuleValue → Access → Option RuleValue
first_of f rules a = find (decides f a) rules

-- the index of the line that decides for the family, counted from 0
abbrev pub place_of_first : Family → List RuleValue → Access → Option ℕ
place_of_first f rules a = position_from (decides f a) 0 rules

-- the rule, if it requires something to be done
abbrev pub carried_out : Option RuleValue → Option RuleValue
carried_out None = None
carried_out (Some r) = if is_done r.act then Some r else None

-- the action that these rules require, at most one for each family
abbrev pub action_of : Option RuleValue → Option RuleValue → Option RuleValue → Option RuleValue
    → ActionValue
action_of measure appraise audit hash = record {
  measure = is_some measure;
  pcr = unwrap_or (option_and_then (λ r. r.pcr) measure) default_pcr;
  template = option_and_then (λ r. r.template) measure;
  appraise = is_some appraise;
  need = option_map_or (λ r. r.need) appraise need.Any;
  algos = option_and_then (λ r. r.algos) appraise;
  audit = is_some audit;
  hash = is_some hash;
}

-- a task's access to an inode on this file system, with the owner and the group of the metadata
abbrev pub access_of : Cred → Super → Meta → Func → ℕ → Access
access_of cred place meta func mask = record {
  func = func;
  mask = mask;
  cred = record { ref_ptr = (0, 0); now = cred };
  owner = meta.uid;
  group = meta.gid;
  place = record { ref_ptr = (0, 0); now = place };
}

abbrev pub decide_of : List RuleValue → Access → ActionValue
decide_of rules a =
    let decider = λ (f : Family). carried_out (first_of f rules a) in
    action_of (decider Measuring) (decider Appraising) (decider Auditing) (decider Hashing)
