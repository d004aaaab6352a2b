-- Examples of changes of attributes and metadata, and of the integrity mutex.
use Rattle.std.proofs.Common.{◌≡◌, ℕ, true, false, List, [], ◌∷◌, Some, None, refl}
use Rattle.std.specs.Prelude.{codes, replicate}
use Rattle.ima_templates.specs.declared.entry.Placed.TheVariants.{Added, Already}
use Rattle.inode_meta.specs.declared.appraisal.EvmStatus.TheVariants as status
use Rattle.inode_meta.specs.declared.appraisal.Mode.TheVariants.{Off}
use Rattle.policy_rules.specs.declared.rule.Func.TheVariants.{FileCheck}
use Rattle.inode_events.specs.Checks.{no_action}
use Rattle.inode_events.specs.declared.deed.Change.TheVariants as change
use Rattle.inode_events.specs.declared.deed.Deed.TheVariants as deed
use Rattle.inode_events.specs.declared.deed.How.TheVariants as how
use Rattle.inode_events.specs.declared.told.Told.TheVariants as told
use Rattle.evm_verify.specs.Setup.{Setup}
use Rattle.evm_verify.specs.Status.{evm_status}
use Rattle.inode_meta.specs.declared.appraisal.EvmStatus.{EvmStatus}
use Rattle.std.proofs.Common.{ap}
use Rattle.ima_templates.specs.xattrs.Attrs.{Pair}
use Rattle.evm_verify.specs.Changes.{allows_meta, answered}
use Rattle.inode_events.specs.Says.{status_told}
use Rattle.inode_events.proofs.Examples.{Tells, abc, grant, inode_of, measure, meta, no_key, plain, with_key}

-- Attributes are changed without a key, and some changes are refused.
attributes_changed : Tells plain (
    (deed.SetAttr (codes "user.x") (Some (replicate 4096 0)) false, Some told.Done) ∷
    (deed.SetAttr (codes "user.x") (Some (replicate 4097 0)) false, Some told.TooLong) ∷
    (deed.SetAttr (codes "user.y") None false, Some told.NoData) ∷
    (deed.SetAttr (codes "user.x") None false, Some told.Done) ∷
    (deed.SetAttr (codes "security.evm") (Some (2 ∷ [])) false, Some told.EvmName) ∷
    (deed.SetAttr (codes "security.ima") (Some (4 ∷ [])) false, Some told.NotAdmin) ∷
    (deed.SetAttr (codes "security.ima") (Some (4 ∷ [])) true, Some told.Done) ∷
    (deed.SetAttr (codes "security.ima") (Some (7 ∷ [])) true, Some told.Invalid) ∷
    (deed.SetAttr (codes "security.ima") (Some []) true, Some told.Invalid) ∷
    [])
attributes_changed = (refl, refl)

-- An absent file has no attributes and metadata to change.
absent_changed : Tells (inode_of Off no_key false [] [] true) (
    (deed.SetAttr (codes "user.x") (Some []) false, Some told.NotFound) ∷
    (deed.SetMeta (change.Mode 33152), Some told.NotFound) ∷
    [])
absent_changed = (refl, refl)

-- With a key, the first protected attribute can't be set on a file that isn't new.
nothing_protected : (key : List ℕ) → Tells (inode_of Off (with_key key) true abc [] true) ((
  deed.SetAttr (codes "security.selinux") (Some (97 ∷ [])) false,
  Some (told.Status status.NoXattrs),
) ∷
    [])
nothing_protected key = (refl, refl)

-- The mode and the owner can't be changed if the HMAC is wrong.
hmac_wrong : (key : List ℕ)
    → Tells (inode_of Off (with_key key) true abc
    ((codes "security.evm", 3 ∷ []) ∷ (codes "security.ima", 4 ∷ []) ∷ []) true) (
    (deed.SetMeta (change.Mode 33152), Some (told.Status status.Fail)) ∷
    [])
hmac_wrong key = (refl, refl)

-- The mode and the owner can't be changed if the HMAC is missing.
hmac_missing : (key : List ℕ)
    → Tells (inode_of Off (with_key key) true abc ((codes "security.ima", 4 ∷ []) ∷ []) true) (
    (deed.SetMeta (change.Owner 1 1), Some (told.Status status.NoLabel)) ∷
    [])
hmac_missing key = (refl, refl)

-- The mode and the owner can be changed if the HMAC is right.
hmac_fits : (evm : Setup) (attrs : List Pair) → evm_status evm attrs meta ≡ status.Pass
    → Tells (inode_of Off evm true abc attrs true) (
    (deed.SetMeta (change.Mode 33152), Some told.Done) ∷
    [])
hmac_fits evm attrs fits =
    (refl, ap (λ (s : EvmStatus). Some (status_told (answered (allows_meta s) s)) ∷ []) fits)

-- While a collection is open, takes, changes and the closes of writers are blocked. Reads, writes,
-- opens and the closes of readers aren't.
mutex_held : Tells plain (
    (deed.Count (how.Read false), Some told.Held) ∷
    (deed.Count (how.Write false false), Some told.Held) ∷
    (deed.Check 1 FileCheck measure 1, Some (told.OpenWriters 1)) ∷
    (deed.Check 2 FileCheck no_action 1, Some (told.ToMToU 2)) ∷
    (deed.Take 1, Some told.Begun) ∷
    (deed.Count (how.Read false), Some told.Held) ∷
    (deed.Check 6 FileCheck measure 1, Some (told.OpenWriters 3)) ∷
    (deed.Take 6, None) ∷
    (deed.SetAttr (codes "user.x") (Some []) false, None) ∷
    (deed.SetMeta (change.Mode 33152), None) ∷
    (deed.CloseTake 2, None) ∷
    (deed.Write 2 0 (88 ∷ []), Some told.Done) ∷
    (deed.Count (how.Read false), Some told.Held) ∷
    (deed.Check 9 FileCheck no_action 1, Some told.Quiet) ∷
    (deed.Close 9, Some told.Dropped) ∷
    (deed.Chunk 1, Some told.Last) ∷
    (deed.Finish 1, Some (told.Grant (grant (Some (Added 4)) None true false))) ∷
    (deed.Take 6, Some (told.Grant (grant (Some (Already 4)) None true false))) ∷
    (deed.SetAttr (codes "user.x") (Some []) false, Some told.Done) ∷
    [])
mutex_held = (refl, refl)

-- Each change of an attribute voids the digest, but a change of the mode doesn't.
attribute_voids : Tells plain (
    (deed.Count (how.Read false), Some told.Held) ∷
    (deed.Check 1 FileCheck measure 1, Some told.Quiet) ∷
    (deed.Take 1, Some told.Begun) ∷
    (deed.Chunk 1, Some told.Last) ∷
    (deed.Finish 1, Some (told.Grant (grant (Some (Added 1)) None true false))) ∷
    (deed.SetMeta (change.Mode 33152), Some told.Done) ∷
    (deed.Check 1 FileCheck measure 1, Some told.Quiet) ∷
    (deed.Take 1, Some (told.Grant (grant (Some (Already 1)) None true false))) ∷
    (deed.SetAttr (codes "user.x") (Some []) false, Some told.Done) ∷
    (deed.Check 1 FileCheck measure 1, Some told.Quiet) ∷
    (deed.Take 1, Some told.Begun) ∷
    [])
attribute_voids = (refl, refl)
