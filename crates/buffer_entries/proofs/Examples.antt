-- Examples of rules and entries, each with its value.
use Rattle.std.proofs.Common.{◌≡◌, true, false, [], ◌∷◌, codes, Some, None, refl}
use Rattle.inode_meta.specs.declared.appraisal.Need.TheVariants as need
use Rattle.inode_meta.specs.declared.identity.Cred.{Cred}
use Rattle.inode_meta.specs.declared.measurement.Template.TheVariants.{Ima, ImaBuf}
use Rattle.hash_algos.specs.declared.algo.Algo.TheVariants.{Md5}
use Rattle.policy_text.specs.rules.RuleValue.{RuleValue}
use Rattle.policy_text.specs.rules.declared.rule.Act.{Act}
use Rattle.policy_text.specs.rules.declared.rule.Act.TheVariants as act
use Rattle.policy_text.specs.rules.declared.rule.Func.TheVariants as func
use Rattle.policy_text.specs.rules.declared.rule.IdTest.TheVariants.{Is, Above, Below}
use Rattle.buffer_entries.specs.Entries.{boot_entry, entry_for}
use Rattle.buffer_entries.specs.Wanted.{wanted}

-- ---- rules

-- a line for critical data with only an action
abbrev line : Act → RuleValue
line act = record {
  act = act;
  func = Some func.CriticalData;
  mask = None;
  fsmagic = None;
  fsuuid = None;
  fsname = None;
  uid = None;
  euid = None;
  gid = None;
  egid = None;
  fowner = None;
  fgroup = None;
  need = need.Any;
  blacklist = false;
  algos = None;
  directio = false;
  pcr = None;
  template = None;
}

abbrev measure : RuleValue
measure = line act.Measure

abbrev dont : RuleValue
dont = line act.DontMeasure

abbrev caller : Cred
caller = record { uid = 5; euid = 6; gid = 7; egid = 8; admin = false }

-- the register of the line, or else register 10; the template has no effect
registers : (wanted (measure ∷ []) caller ≡ Some 10)
    × (wanted (record measure { pcr = Some 0 } ∷ []) caller ≡ Some 0)
    × (wanted (record measure { pcr = Some 23; template = Some Ima } ∷ []) caller ≡ Some 23)
    × (wanted (record measure { directio = true } ∷ []) caller ≡ Some 10)
    × (wanted [] caller ≡ None)
registers = (refl, refl, refl, refl, refl)

-- the first line of the family decides
first_line : (wanted (dont ∷ measure ∷ []) caller ≡ None)
    × (wanted (measure ∷ dont ∷ []) caller ≡ Some 10)
    × (wanted (record measure { pcr = Some 11 } ∷ record measure { pcr = Some 12 } ∷ []) caller
    ≡ Some 11)
    × (wanted (line act.Appraise ∷ line act.DontAppraise ∷ line act.Audit ∷ line act.DontAudit
    ∷ line act.Hash ∷ line act.DontHash ∷ measure ∷ []) caller ≡ Some 10)
first_line = (refl, refl, refl, refl)

-- a line without a function, or with another one, is passed over
functions : (wanted (record measure { func = None; pcr = Some 11 } ∷ measure ∷ []) caller
    ≡ Some 10)
    × (wanted (record dont { func = None } ∷ measure ∷ []) caller ≡ Some 10)
    × (wanted (record measure { func = Some func.FileCheck } ∷ []) caller ≡ None)
    × (wanted (record dont { func = Some func.KexecCmdline } ∷ measure ∷ []) caller ≡ Some 10)
functions = (refl, refl, refl, refl)

-- a line with a condition that only a file can meet is passed over
of_files : (wanted (record dont { mask = Some (record { exact = true; bits = 4 }) } ∷ measure ∷ [])
    caller ≡ Some 10)
    × (wanted (record dont { fsmagic = Some 0 } ∷ measure ∷ []) caller ≡ Some 10)
    × (wanted (record dont { fsuuid = Some 0 } ∷ measure ∷ []) caller ≡ Some 10)
    × (wanted (record dont { fsname = Some (codes "ext4") } ∷ measure ∷ []) caller ≡ Some 10)
    × (wanted (record dont { fowner = Some (Is 0) } ∷ measure ∷ []) caller ≡ Some 10)
    × (wanted (record dont { fgroup = Some (Is 0) } ∷ measure ∷ []) caller ≡ Some 10)
of_files = (refl, refl, refl, refl, refl, refl)

-- each ID is compared with its own condition
ids : (wanted (record measure { uid = Some (Is 5) } ∷ []) caller ≡ Some 10)
    × (wanted (record measure { uid = Some (Is 6) } ∷ []) caller ≡ None)
    × (wanted (record measure { euid = Some (Above 5) } ∷ []) caller ≡ Some 10)
    × (wanted (record measure { euid = Some (Above 6) } ∷ []) caller ≡ None)
    × (wanted (record measure { gid = Some (Below 8) } ∷ []) caller ≡ Some 10)
    × (wanted (record measure { gid = Some (Below 7) } ∷ []) caller ≡ None)
    × (wanted (record measure { egid = Some (Is 8) } ∷ []) caller ≡ Some 10)
    × (wanted (record measure { egid = Some (Is 7) } ∷ []) caller ≡ None)
    × (wanted (record dont { uid = Some (Is 0) } ∷ measure ∷ []) caller ≡ Some 10)
ids = (refl, refl, refl, refl, refl, refl, refl, refl, refl)

-- ---- entries

-- an entry shows the name and the bytes of its buffer, in its register, under `ima-buf`
entries : ((entry_for Md5 11 (codes "kernel", codes "abc")).pcr ≡ 11)
    × ((entry_for Md5 11 (codes "kernel", codes "abc")).template ≡ ImaBuf)
    × ((entry_for Md5 11 (codes "kernel", codes "abc")).digest.algo ≡ Md5)
    × ((entry_for Md5 11 (codes "kernel", codes "abc")).name ≡ codes "kernel")
    × ((entry_for Md5 11 (codes "kernel", codes "abc")).sig ≡ codes "abc")
    × ((boot_entry Md5).pcr ≡ 10) × ((boot_entry Md5).digest.algo ≡ Md5)
    × ((boot_entry Md5).name ≡ codes "boot_aggregate")
entries = (refl, refl, refl, refl, refl, refl, refl, refl)
