-- The access that a task makes for a purpose, and the slot of its verdict.
use Rattle.std.specs.Prelude.{ℕ, ◌+◌}
use Rattle.inode_meta.specs.declared.appraisal.Slot.{Slot}
use Rattle.inode_meta.specs.declared.appraisal.Slot.TheVariants as slot
use Rattle.policy_rules.specs.declared.access.Purpose.{Purpose}
use Rattle.policy_rules.specs.declared.access.Purpose.TheVariants as purpose
use Rattle.policy_rules.specs.declared.rule.Func.{Func}
use Rattle.policy_rules.specs.declared.rule.Func.TheVariants as func
use Rattle.policy_rules.specs.Masks.{may_exec, may_read, may_write}

-- the hook's slot in the kernel's inode cache; a function without a slot of its own has that of
-- opened files
abbrev pub slot_of : Func → Slot
slot_of func.BprmCheck = slot.Bprm
slot_of func.MmapCheck = slot.Mmap
slot_of _ = slot.File

-- the hook that consults the policy for the purpose
abbrev pub func_of_purpose : Purpose → Func
func_of_purpose purpose.Map = func.MmapCheck
func_of_purpose purpose.Exec = func.BprmCheck
func_of_purpose purpose.Module = func.ModuleCheck
func_of_purpose purpose.Firmware = func.FirmwareCheck
func_of_purpose _ = func.FileCheck

-- the access mask for the purpose
abbrev pub mask_of_purpose : Purpose → ℕ
mask_of_purpose purpose.Write = may_write
mask_of_purpose purpose.ReadWrite = may_read + may_write
mask_of_purpose purpose.Map = may_exec
mask_of_purpose purpose.Exec = may_exec
mask_of_purpose _ = may_read
