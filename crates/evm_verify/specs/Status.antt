-- The EVM status of an inode, and the renewal of its HMAC.
use Rattle.std.specs.Prelude.{ℕ, ◌==◌, Bool, true, ◌&&◌, not, List, length, Option, None, Some, slice_index, if◌then◌else◌}
use Rattle.std.specs.Str.{bytes_eq}
use Rattle.inode_meta.specs.declared.appraisal.EvmStatus.{EvmStatus}
use Rattle.inode_meta.specs.declared.appraisal.EvmStatus.TheVariants as status
use Rattle.inode_meta.specs.declared.identity.Meta.{Meta}
use Rattle.xattr_store.specs.Attrs.{Pair, put, value, without}
use Rattle.evm_verify.specs.Input.{any_present, evm_input, evm_name, evm_value, old_input, protected_names}
use Rattle.evm_verify.specs.Setup.{Setup}

-- there is no `security.evm`, or it has the form of an HMAC: 21 bytes that begin with byte 2
abbrev pub is_blank : Option (List ℕ) → Bool
is_blank None = true
is_blank (Some bytes) = length bytes == 21 && slice_index bytes 0 == 2

-- the status by the value of `security.evm`: it is the HMAC of the inode as it is, or that in the
-- older form, or neither
abbrev pub compared : Option (List ℕ) → List ℕ → List ℕ → EvmStatus
compared None now old = status.NoLabel
compared (Some bytes) now old =
    if bytes_eq bytes now then status.Pass
    else if bytes_eq bytes old then status.Old
    else status.Fail

-- the EVM status if there is a key
abbrev pub keyed_status : List ℕ → Setup → List Pair → Meta → EvmStatus
keyed_status key evm attrs meta =
    if not (any_present (protected_names evm) attrs) && is_blank (value evm_name attrs)
    then status.NoXattrs
    else compared (value evm_name attrs) (evm_value key (evm_input evm attrs meta))
    (evm_value key (old_input attrs meta))

-- the EVM status, by the first case that applies
abbrev pub status_under : Option (List ℕ) → Setup → List Pair → Meta → EvmStatus
status_under None evm attrs meta = status.Unknown
status_under (Some key) evm attrs meta = keyed_status key evm attrs meta

abbrev pub evm_status : Setup → List Pair → Meta → EvmStatus
evm_status evm attrs meta = status_under evm.key evm attrs meta

-- the attributes after the HMAC is computed again: it is removed if no protected attribute is left,
-- and without a key nothing changes
abbrev pub renewed_under : Option (List ℕ) → Setup → List Pair → Meta → List Pair
renewed_under None evm attrs meta = attrs
renewed_under (Some key) evm attrs meta =
    if any_present (protected_names evm) attrs
    then put evm_name (evm_value key (evm_input evm attrs meta)) attrs
    else without evm_name attrs

abbrev pub renewed : Setup → List Pair → Meta → List Pair
renewed evm attrs meta = renewed_under evm.key evm attrs meta
