-- The message of EVM's HMAC: the values of the protected attributes and the inode's metadata.
use Rattle.std.specs.Prelude.{ℕ, ◌==◌, Bool, List, [], ◌∷◌, ◌++◌, codes, is_some, unwrap_or, if◌then◌else◌}
use Rattle.std.specs.Int.{w16, w32, w64, w128, to_be_bytes, to_le_bytes}
use Rattle.std.specs.List.{flat_map, list_any}
use Rattle.hmac_core.specs.Hmac.{hmac}
use Rattle.inode_meta.specs.declared.identity.Meta.{Meta}
use Rattle.xattr_store.specs.Attrs.{Pair, value}
use Rattle.xattr_store.specs.Names.{ima_name}
pub use Rattle.xattr_store.specs.Names.{evm_name}
use Rattle.evm_verify.specs.Setup.{Setup}

-- the attributes that are always protected, in the order of the kernel's list
abbrev pub five_names : List (List ℕ)
five_names =
    codes "security.selinux" ∷ codes "security.SMACK64" ∷ codes "security.apparmor"
    ∷ ima_name ∷ codes "security.capability" ∷ []

-- the protected attributes: the five fixed names, and then the added ones
abbrev pub protected_names : Setup → List (List ℕ)
protected_names evm = five_names ++ evm.added

-- at least one of the names is present, perhaps with an empty value
abbrev pub any_present : List (List ℕ) → List Pair → Bool
any_present names attrs = list_any (λ name. is_some (value name attrs)) names

-- the concatenated values of the named attributes that are present, without names or lengths
abbrev pub values_under : List (List ℕ) → List Pair → List ℕ
values_under names attrs = flat_map (λ name. unwrap_or (value name attrs) []) names

-- the metadata, with numbers in little-endian and two zero bytes after the mode
abbrev pub meta_bytes : Meta → List ℕ
meta_bytes meta =
    to_le_bytes w64 meta.ino ++ to_le_bytes w32 meta.generation ++ to_le_bytes w32 meta.uid
    ++ to_le_bytes w32 meta.gid ++ to_le_bytes w16 meta.mode ++ 0 ∷ 0 ∷ []

-- under format 2 the UUID of the file system follows, in the byte order of its text form
abbrev pub place_bytes : ℕ → Meta → List ℕ
place_bytes format meta = if format == 2 then to_be_bytes w128 meta.place else []

-- the message of the HMAC under these settings
abbrev pub evm_input : Setup → List Pair → Meta → List ℕ
evm_input evm attrs meta =
    values_under (protected_names evm) attrs ++ meta_bytes meta ++ place_bytes evm.format meta

-- the message in the older form: the five names only, and no UUID
abbrev pub old_input : List Pair → Meta → List ℕ
old_input attrs meta = values_under five_names attrs ++ meta_bytes meta

-- the value of `security.evm`: its type byte 2, and then the HMAC
abbrev pub evm_value : List ℕ → List ℕ → List ℕ
evm_value key message = 2 ∷ hmac key message
