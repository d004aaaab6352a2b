-- Changes of attributes under a given setup of EVM.
use Rattle.std.specs.Prelude.{◌≡◌, ℕ, Bool, false, List, Option, Some, if◌then◌else◌}
use Rattle.inode_events.specs.evm.Changes.{protects}
use Rattle.inode_events.specs.evm.Setup.{Setup}
use Rattle.inode_events.specs.evm.Status.{evm_status, renewed}
use Rattle.hash_algos.specs.declared.digest.Digest.{Digest}
use Rattle.inode_events.specs.Integrity.{attr_changed, ima_name}
use Rattle.inode_events.specs.Says.{is_too_long}
use Rattle.inode_events.specs.State.{changed}
use Rattle.inode_events.specs.declared.deed.Deed.{Deed}
use Rattle.inode_events.specs.declared.deed.Deed.TheVariants as deed
use Rattle.inode_meta.specs.declared.identity.Meta.{Meta}
use Rattle.label_values.specs.Labels.{label_of}
use Rattle.label_values.specs.Verdicts.{is_old}
use Rattle.xattr_store.specs.Attrs.{Pair, put}

abbrev pub changed_on : Setup → List ℕ → Option (List ℕ) → Meta → List Pair → List Pair
changed_on evm name bytes meta attrs =
    if protects evm name then renewed evm (attr_changed name bytes attrs) meta else attr_changed
    name bytes attrs

abbrev pub labelled_on : Setup → Digest → Meta → List Pair → List Pair
labelled_on evm digest meta attrs = renewed evm (put ima_name (label_of digest) attrs) meta

abbrev pub fixed_on : Setup → Digest → Meta → List Pair → List Pair
fixed_on evm digest meta attrs =
    if is_old (evm_status evm attrs meta) then renewed evm attrs meta else labelled_on evm digest
    meta attrs

-- the attributes after mode fix, which changes them only if `mends` is true
abbrev pub mended_on : Setup → Bool → Digest → Meta → List Pair → List Pair
mended_on evm mends digest meta attrs = if mends then fixed_on evm digest meta attrs else attrs

-- ---- deeds that rewrite attributes if they are done

-- a call's change of an attribute or of metadata, or a close with the digest for its label
abbrev pub IsRewriting : Deed → Option Digest → Type 0
IsRewriting (deed.SetAttr name bytes admin) digest = is_too_long bytes ≡ false
IsRewriting (deed.SetMeta change) digest = Unit {0}
IsRewriting (deed.CloseFinish file) (Some digest) = Unit {0}
IsRewriting _ digest = ⊥

abbrev pub rewritten : Setup → Deed → Option Digest → Meta → List Pair → List Pair
rewritten evm (deed.SetAttr name bytes admin) digest meta attrs =
    changed_on evm name bytes meta attrs
rewritten evm (deed.SetMeta change) digest meta attrs = renewed evm attrs (changed change meta)
rewritten evm (deed.CloseFinish file) (Some digest) meta attrs = labelled_on evm digest meta attrs
rewritten evm _ digest meta attrs = attrs
