-- The words for actions, and the texts of the values of keys.
use Rattle.std.specs.Prelude.{ℕ, ◌==◌, List, [], ◌++◌, codes, map, filter, if◌then◌else◌}
use Rattle.std.specs.Fmt.{decimal}
use Rattle.std.specs.List.{join_with_byte}
use Rattle.hash_algos.specs.declared.algo_set.AlgoSet.{AlgoSet}
use Rattle.hash_algos.specs.Algo.{algos, algo_name}
use Rattle.hash_algos.specs.AlgoSet.{holds_algo}
use Rattle.policy_rules.specs.declared.rule.Act.{Act}
use Rattle.policy_rules.specs.declared.rule.Act.TheVariants as act
use Rattle.policy_rules.specs.declared.rule.Func.{Func}
use Rattle.policy_rules.specs.declared.rule.Func.TheVariants as func
use Rattle.policy_rules.specs.declared.rule.IdTest.{IdTest}
use Rattle.policy_rules.specs.declared.rule.IdTest.TheVariants as id
use Rattle.policy_rules.specs.declared.rule.MaskTest.{MaskTest}
use Rattle.policy_rules.specs.Masks.{may_exec, may_read, may_write}

-- the word with which a line of the action begins
abbrev pub act_word : Act → List ℕ
act_word act.Measure = codes "measure"
act_word act.DontMeasure = codes "dont_measure"
act_word act.Appraise = codes "appraise"
act_word act.DontAppraise = codes "dont_appraise"
act_word act.Audit = codes "audit"
act_word act.DontAudit = codes "dont_audit"
act_word act.Hash = codes "hash"
act_word act.DontHash = codes "dont_hash"

abbrev pub func_word : Func → List ℕ
func_word func.BprmCheck = codes "BPRM_CHECK"
func_word func.MmapCheck = codes "MMAP_CHECK"
func_word func.FileCheck = codes "FILE_CHECK"
func_word func.CredsCheck = codes "CREDS_CHECK"
func_word func.ModuleCheck = codes "MODULE_CHECK"
func_word func.FirmwareCheck = codes "FIRMWARE_CHECK"
func_word func.KexecKernelCheck = codes "KEXEC_KERNEL_CHECK"
func_word func.KexecInitramfsCheck = codes "KEXEC_INITRAMFS_CHECK"
func_word func.KexecCmdline = codes "KEXEC_CMDLINE"
func_word func.KeyCheck = codes "KEY_CHECK"
func_word func.CriticalData = codes "CRITICAL_DATA"
func_word func.SetxattrCheck = codes "SETXATTR_CHECK"
func_word func.PolicyCheck = codes "POLICY_CHECK"
func_word func.MmapCheckReqprot = codes "MMAP_CHECK_REQPROT"

abbrev pub mask_bits_word : ℕ → List ℕ
mask_bits_word bits =
    if bits == may_exec then codes "MAY_EXEC"
    else if bits == may_write then codes "MAY_WRITE"
    else if bits == may_read then codes "MAY_READ"
    else codes "MAY_APPEND"

abbrev pub mask_text : MaskTest → List ℕ
mask_text m = (if m.exact then [] else codes "^") ++ mask_bits_word m.bits

abbrev pub id_text : IdTest → List ℕ
id_text (id.Is n) = codes "=" ++ decimal n
id_text (id.Above n) = codes ">" ++ decimal n
id_text (id.Below n) = codes "<" ++ decimal n

-- the names of a set's algorithms, in the order of their numbers, separated by commas
abbrev pub algos_text : AlgoSet → List ℕ
algos_text s = join_with_byte 44 (map algo_name (filter (holds_algo s) algos))
