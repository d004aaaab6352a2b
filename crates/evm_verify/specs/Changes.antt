-- The changes that EVM permits.
use Rattle.std.specs.Prelude.{ℕ, Bool, true, false, ◌||◌, not, List, ◌++◌, Result, Ok, Err, if◌then◌else◌}
use Rattle.std.specs.List.{list_any}
use Rattle.std.specs.Str.{bytes_eq}
use Rattle.inode_meta.specs.declared.appraisal.EvmStatus.{EvmStatus}
use Rattle.inode_meta.specs.declared.appraisal.EvmStatus.TheVariants as status
use Rattle.inode_meta.specs.declared.identity.Meta.{Meta}
use Rattle.xattr_store.specs.Attrs.{Pair}
use Rattle.evm_verify.specs.Input.{five_names}
use Rattle.evm_verify.specs.Setup.{Setup}
use Rattle.evm_verify.specs.Status.{evm_status}

-- the name is a protected attribute, if these names are added to the five
abbrev pub is_protected : List (List ℕ) → List ℕ → Bool
is_protected added name = list_any (bytes_eq name) (five_names ++ added)

-- the name is a protected attribute under these settings
abbrev pub protects : Setup → List ℕ → Bool
protects evm name = is_protected evm.added name

-- a protected attribute may be changed if the HMAC is right, if there is no key, or if the file is
-- new and has no protected attribute yet
abbrev pub allows_attr : EvmStatus → Bool → Bool
allows_attr status.Pass new = true
allows_attr status.Unknown new = true
allows_attr status.NoXattrs new = new
allows_attr _ new = false

-- the mode and the owner may be changed unless the HMAC is missing, wrong or in the older form
abbrev pub allows_meta : EvmStatus → Bool
allows_meta status.NoLabel = false
allows_meta status.Fail = false
allows_meta status.Old = false
allows_meta _ = true

-- a permission, or a refusal with the status
abbrev pub answered : Bool → EvmStatus → Result (Unit {0}) EvmStatus
answered allowed told = if allowed then Ok tt else Err told

-- whether the attribute may be changed, or else the status for which it may not
abbrev pub may_change : Setup → List ℕ → List Pair → Meta → Bool → Result (Unit {0}) EvmStatus
may_change evm name attrs meta new =
    answered (not (protects evm name) || allows_attr (evm_status evm attrs meta) new)
    (evm_status evm attrs meta)

-- whether the mode and the owner may be changed, or else the status for which they may not
abbrev pub may_set_meta : Setup → List Pair → Meta → Result (Unit {0}) EvmStatus
may_set_meta evm attrs meta = answered (allows_meta (evm_status evm attrs meta))
    (evm_status evm attrs meta)
