-- A rule as contracts see it, and its invariant: the rules that a line can express.
use Rattle.std.specs.Prelude.{ℕ, Bool, true, false, ◌==◌, ◌||◌, List, Option, Some, None, is_none, nat_lt, not, IsTrue, nat_le, ◌^◌}
use Rattle.std.specs.List.{list_any}
use Rattle.hash_algos.specs.declared.algo_set.AlgoSet.{AlgoSet}
use Rattle.hash_algos.specs.Algo.{algos}
use Rattle.hash_algos.specs.AlgoSet.{holds_algo}
use Rattle.inode_meta.specs.declared.appraisal.Need.{Need}
use Rattle.inode_meta.specs.declared.appraisal.Need.TheVariants as need
use Rattle.inode_meta.specs.declared.measurement.Template.{Template}
use Rattle.inode_meta.specs.declared.measurement.Template.TheVariants as template
use Rattle.text_forms.specs.Words.{is_word}
use Rattle.policy_rules.specs.declared.rule.Act.{Act}
use Rattle.policy_rules.specs.declared.rule.Act.TheVariants as act
use Rattle.policy_rules.specs.declared.rule.Func.{Func}
use Rattle.policy_rules.specs.declared.rule.IdTest.{IdTest}
use Rattle.policy_rules.specs.declared.rule.IdTest.TheVariants as id
use Rattle.policy_rules.specs.declared.rule.MaskTest.{MaskTest}
use Rattle.policy_rules.specs.Masks.{may_append, may_exec, may_read, may_write}

pub record RuleValue : Type 0 where
  pub act : Act
  pub func : Option Func
  pub mask : Option MaskTest
  pub fsmagic : Option ℕ
  pub fsuuid : Option ℕ
  pub fsname : Option (List ℕ)
  pub uid : Option IdTest
  pub euid : Option IdTest
  pub gid : Option IdTest
  pub egid : Option IdTest
  pub fowner : Option IdTest
  pub fgroup : Option IdTest
  pub need : Need
  pub blacklist : Bool
  pub algos : Option AlgoSet
  pub directio : Bool
  pub pcr : Option ℕ
  pub template : Option Template

abbrev pub is_measure : Act → Bool
is_measure act.Measure = true
is_measure _ = false

abbrev pub is_appraise : Act → Bool
is_appraise act.Appraise = true
is_appraise _ = false

abbrev pub is_any : Need → Bool
is_any need.Any = true
is_any need.Signature = false

-- the mask is a single bit
abbrev pub is_mask_bit : ℕ → Bool
is_mask_bit bits =
    (bits == may_exec) || (bits == may_write) || (bits == may_read) || (bits == may_append)

abbrev pub has_algos : AlgoSet → Bool
has_algos s = list_any (holds_algo s) algos

-- whether a rule can name the template
abbrev pub is_named_template : Template → Bool
is_named_template template.ImaBuf = false
is_named_template _ = true

-- an optional value is absent or passes the test
abbrev pub if_there : {A : Type 0} → (A → Bool) → Option A → Bool
if_there test None = true
if_there test (Some x) = test x

-- the number in the test of a user or group ID
abbrev pub id_number : IdTest → ℕ
id_number (id.Is n) = n
id_number (id.Above n) = n
id_number (id.Below n) = n

abbrev pub is_id : IdTest → Bool
is_id t = nat_le (id_number t) 0xffff_ffff

-- a line can express the rule; its numbers fit their types
pub record IsRule (r : RuleValue) : Type 0 where
  pub mask : IsTrue (if_there (λ m. is_mask_bit m.bits) r.mask)
  pub fsmagic : IsTrue (if_there (λ n. nat_le n 0xffff_ffff_ffff_ffff) r.fsmagic)
  pub fsuuid : IsTrue (if_there (λ n. nat_lt n (2 ^ 128)) r.fsuuid)
  pub fsname : IsTrue (if_there (is_word 255) r.fsname)
  pub uid : IsTrue (if_there is_id r.uid)
  pub euid : IsTrue (if_there is_id r.euid)
  pub gid : IsTrue (if_there is_id r.gid)
  pub egid : IsTrue (if_there is_id r.egid)
  pub fowner : IsTrue (if_there is_id r.fowner)
  pub fgroup : IsTrue (if_there is_id r.fgroup)
  pub need : IsTrue (is_any r.need || is_appraise r.act)
  pub blacklist : IsTrue (not r.blacklist || is_appraise r.act)
  pub appraise_algos : IsTrue (is_none r.algos || is_appraise r.act)
  pub algos : IsTrue (if_there has_algos r.algos)
  pub measure_pcr : IsTrue (is_none r.pcr || is_measure r.act)
  pub pcr : IsTrue (if_there (λ n. nat_lt n 24) r.pcr)
  pub measure_template : IsTrue (is_none r.template || is_measure r.act)
  pub template : IsTrue (if_there is_named_template r.template)
