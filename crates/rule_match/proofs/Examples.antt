-- The definitions applied to concrete rules and accesses.
use Rattle.std.proofs.Common.{◌≡◌, ℕ, true, false, [], ◌∷◌, Some, None, refl}
use Rattle.policy_rules.specs.meta.declared.appraisal.Need.TheVariants as need
use Rattle.policy_rules.specs.RuleValue.{RuleValue}
use Rattle.policy_rules.specs.declared.access.Access.{Access}
use Rattle.policy_rules.specs.declared.rule.Act.{Act}
use Rattle.policy_rules.specs.declared.rule.Act.TheVariants as act
use Rattle.policy_rules.specs.declared.rule.Func.TheVariants as func
use Rattle.policy_rules.specs.declared.rule.IdTest.TheVariants.{Is, Above, Below}
use Rattle.rule_match.specs.Conditions.{rule_matches}
use Rattle.rule_match.specs.Decision.{decide_of}

-- a line with only an action
abbrev line : Act → RuleValue
line act = record {
  act = act;
  func = None;
  mask = None;
  fsmagic = None;
  fsuuid = None;
  fsname = None;
  uid = None;
  euid = None;
  gid = None;
  egid = None;
  fowner = None;
  fgroup = None;
  need = need.Any;
  blacklist = false;
  algos = None;
  directio = false;
  pcr = None;
  template = None;
}

-- a file of user 7 on ext4, opened with this mask by a task with real user ID `uid` and effective
-- user ID 0
abbrev opened : ℕ → ℕ → Access
opened mask uid = record {
  func = func.FileCheck;
  mask = mask;
  cred = record {
    ref_ptr = (0, 0);
    now =
        record { uid = uid; euid = 0; gid = 2; egid = 3; admin = false };
  };
  owner = 7;
  group = 8;
  place = record {
    ref_ptr = (0, 0);
    now =
        record { magic = 0xef53; uuid = 5; name = 101 ∷ 120 ∷ 116 ∷ 52 ∷ []; versions = true };
  };
}

-- `dont_measure uid=0`, `measure`, `appraise`: the first line of a family decides that family only
first_of_family : decide_of (record (line act.DontMeasure) { uid = Some (Is 0) } ∷ line act.Measure
    ∷ line act.Appraise ∷ []) (opened 4 0)
    ≡ record {
      measure = false;
      pcr = 10;
      template = None;
      appraise = true;
      need = need.Any;
      algos =
          None;
      audit = false;
      hash = false;
    }
first_of_family = refl

first_for_others : decide_of (record (line act.DontMeasure) { uid = Some (Is 0) }
    ∷ record (line act.Measure) { pcr = Some 11 } ∷ line act.Appraise ∷ []) (opened 4 1000)
    ≡ record {
      measure = true;
      pcr = 11;
      template = None;
      appraise = true;
      need = need.Any;
      algos =
          None;
      audit = false;
      hash = false;
    }
first_for_others = refl

nothing_matches : decide_of (record (line act.Hash) { func = Some func.BprmCheck } ∷ [])
    (opened 4 0)
    ≡ record {
      measure = false;
      pcr = 10;
      template = None;
      appraise = false;
      need = need.Any;
      algos = None;
      audit = false;
      hash = false;
    }
nothing_matches = refl

-- opening for reading and writing passes `mask=^MAY_READ` but not `mask=MAY_READ`
exact_mask : rule_matches
    (record (line act.Measure) { mask = Some (record { exact = true; bits = 4 }) }) (opened 6 0)
    ≡ false
exact_mask = refl

contained_mask : rule_matches
    (record (line act.Measure) { mask = Some (record { exact = false; bits = 4 }) }) (opened 6 0)
    ≡ true
contained_mask = refl

missing_mask : rule_matches
    (record (line act.Measure) { mask = Some (record { exact = false; bits = 1 }) }) (opened 6 0)
    ≡ false
missing_mask = refl

-- `uid` and `euid` are compared separately, and `>` is strict
uid_apart : rule_matches (record (line act.Measure) { uid = Some (Is 0); euid = Some (Is 0) })
    (opened 4 1000) ≡ false
uid_apart = refl

euid_alone : rule_matches (record (line act.Measure) { euid = Some (Is 0) }) (opened 4 1000) ≡ true
euid_alone = refl

above_itself : rule_matches (record (line act.Measure) { uid = Some (Above 1000) }) (opened 4 1000)
    ≡ false
above_itself = refl

above_less : rule_matches
    (record (line act.Measure) { uid = Some (Above 999); fowner = Some (Below 8) }) (opened 4 1000)
    ≡ true
above_less = refl

-- the keys that test the file system
on_ext4 : rule_matches
    (record (line act.Measure) {
      fsmagic = Some 0xef53;
      fsuuid = Some 5;
      fsname =
          Some (101 ∷ 120 ∷ 116 ∷ 52 ∷ []);
    }) (opened 4 0) ≡ true
on_ext4 = refl

on_another : rule_matches
    (record (line act.Measure) { fsmagic = Some 0xef53; fsname = Some (101 ∷ 120 ∷ 116 ∷ 51 ∷ []) })
    (opened 4 0) ≡ false
on_another = refl
