-- An action as contracts see it, and its invariant.
use Rattle.std.specs.Prelude.{ℕ, Bool, false, ◌==◌, ◌||◌, ◌<◌, Option, None, is_none, IsTrue}
use Rattle.hash_algos.specs.declared.algo_set.AlgoSet.{AlgoSet}
use Rattle.inode_meta.specs.declared.appraisal.Need.{Need}
use Rattle.inode_meta.specs.declared.appraisal.Need.TheVariants as need
use Rattle.inode_meta.specs.Registers.{default_pcr}
use Rattle.inode_meta.specs.declared.measurement.Template.{Template}
use Rattle.policy_rules.specs.RuleValue.{is_any, if_there, is_named_template}

pub record ActionValue : Type 0 where
  pub measure : Bool
  pub pcr : ℕ
  pub template : Option Template
  pub appraise : Bool
  pub need : Need
  pub algos : Option AlgoSet
  pub audit : Bool
  pub hash : Bool

-- no family of rules requires anything for the access
abbrev pub no_action : ActionValue
no_action = record {
  measure = false;
  pcr = default_pcr;
  template = None;
  appraise = false;
  need = need.Any;
  algos = None;
  audit = false;
  hash = false;
}

-- the register exists, and a family that requires nothing has no options
pub record IsAction (a : ActionValue) : Type 0 where
  pub pcr : a.pcr < 24
  pub no_pcr : IsTrue (a.measure || (a.pcr == default_pcr))
  pub no_template : IsTrue (a.measure || is_none a.template)
  pub template : IsTrue (if_there is_named_template a.template)
  pub no_need : IsTrue (a.appraise || is_any a.need)
  pub no_algos : IsTrue (a.appraise || is_none a.algos)
