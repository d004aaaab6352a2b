-- Parsing the values of the keys.
use Rattle.std.specs.Prelude.{ℕ, Bool, true, false, ◌==◌, ◌||◌, List, [], ◌∷◌, codes, Option, Some, None, if◌then◌else◌}
use Rattle.std.specs.List.{slice_split}
use Rattle.std.specs.Option.{option_map}
use Rattle.std.specs.Str.{bytes_eq}
use Rattle.hash_algos.specs.declared.algo_set.AlgoSet.{AlgoSet}
use Rattle.hash_algos.specs.Algo.{algo_by_name}
use Rattle.hash_algos.specs.AlgoSet.{no_algos, with_algo}
use Rattle.inode_meta.specs.declared.measurement.Template.{Template}
use Rattle.inode_meta.specs.declared.measurement.Template.TheVariants as template
use Rattle.text_forms.specs.Numbers.{number_of}
use Rattle.text_forms.specs.Options.{◌>>=◌}
use Rattle.text_forms.specs.Tables.{look_up}
use Rattle.text_forms.specs.Words.{is_word}
use Rattle.policy_rules.specs.declared.rule.Act.{Act}
use Rattle.policy_rules.specs.declared.rule.Act.TheVariants as act
use Rattle.policy_rules.specs.declared.rule.Func.{Func}
use Rattle.policy_rules.specs.declared.rule.Func.TheVariants as func
use Rattle.policy_rules.specs.declared.rule.IdTest.{IdTest}
use Rattle.policy_rules.specs.declared.rule.IdTest.TheVariants as id
use Rattle.policy_rules.specs.declared.rule.MaskTest.{MaskTest}
use Rattle.policy_rules.specs.Masks.{may_append, may_exec, may_read, may_write}

abbrev pub act_of : List ℕ → Option Act
act_of word =
    look_up
    ((codes "measure", act.Measure) ∷ (codes "dont_measure", act.DontMeasure)
    ∷ (codes "appraise", act.Appraise)
    ∷ (codes "dont_appraise", act.DontAppraise) ∷ (codes "audit", act.Audit)
    ∷ (codes "dont_audit", act.DontAudit)
    ∷ (codes "hash", act.Hash) ∷ (codes "dont_hash", act.DontHash) ∷ []) word

-- the hook with this name; two hooks also have an alias
abbrev pub func_of : List ℕ → Option Func
func_of word =
    look_up
    ((codes "BPRM_CHECK", func.BprmCheck) ∷ (codes "MMAP_CHECK", func.MmapCheck)
    ∷ (codes "FILE_MMAP", func.MmapCheck)
    ∷ (codes "FILE_CHECK", func.FileCheck) ∷ (codes "PATH_CHECK", func.FileCheck)
    ∷ (codes "CREDS_CHECK", func.CredsCheck)
    ∷ (codes "MODULE_CHECK", func.ModuleCheck) ∷ (codes "FIRMWARE_CHECK", func.FirmwareCheck)
    ∷ (codes "KEXEC_KERNEL_CHECK", func.KexecKernelCheck)
    ∷ (codes "KEXEC_INITRAMFS_CHECK", func.KexecInitramfsCheck)
    ∷ (codes "KEXEC_CMDLINE", func.KexecCmdline) ∷ (codes "KEY_CHECK", func.KeyCheck)
    ∷ (codes "CRITICAL_DATA", func.CriticalData)
    ∷ (codes "SETXATTR_CHECK", func.SetxattrCheck) ∷ (codes "POLICY_CHECK", func.PolicyCheck)
    ∷ (codes "MMAP_CHECK_REQPROT", func.MmapCheckReqprot) ∷ []) word

abbrev pub mask_bits_of : List ℕ → Option ℕ
mask_bits_of word =
    look_up
    ((codes "MAY_EXEC", may_exec) ∷ (codes "MAY_WRITE", may_write)
    ∷ (codes "MAY_READ", may_read) ∷ (codes "MAY_APPEND", may_append) ∷ []) word

-- the name of a bit, after `^` if the mask only has to contain it
abbrev pub mask_of : List ℕ → Option MaskTest
mask_of [] = None
mask_of (c ∷ cs) =
    if c == 94 then option_map (λ b. record { exact = false; bits = b }) (mask_bits_of cs)
    else option_map (λ b. record { exact = true; bits = b }) (mask_bits_of (c ∷ cs))

-- a word of at most 255 bytes
abbrev pub name_of : List ℕ → Option (List ℕ)
name_of word = if is_word 255 word then Some word else None

-- whether the text begins with `=`, `>` or `<`
abbrev pub is_sign : List ℕ → Bool
is_sign [] = false
is_sign (c ∷ digits) = (c == 61) || (c == 62) || (c == 60)

abbrev pub id_number_of : List ℕ → Option ℕ
id_number_of digits = number_of 10 0xffff_ffff digits

-- a sign, and then a user or group ID
abbrev pub id_of : List ℕ → Option IdTest
id_of [] = None
id_of (c ∷ digits) =
    if c == 61 then option_map id.Is (id_number_of digits)
    else if c == 62 then option_map id.Above (id_number_of digits)
    else if c == 60 then option_map id.Below (id_number_of digits)
    else None

-- the algorithms with these names, added to the set s
abbrev pub algos_from : AlgoSet → List (List ℕ) → Option AlgoSet
algos_from s [] = Some s
algos_from s (name ∷ names) = algo_by_name name >>= λ a. algos_from (with_algo s a) names

-- the algorithms whose names the text lists, separated by commas, at least one
abbrev pub algos_of : List ℕ → Option AlgoSet
algos_of text = algos_from no_algos (slice_split (λ b. b == 44) text)

abbrev pub template_of : List ℕ → Option Template
template_of word = look_up ((codes "ima", template.Ima) ∷ (codes "ima-ng", template.ImaNg)
    ∷ (codes "ima-sig", template.ImaSig) ∷ []) word

-- the values that the kernel knows but that aren't supported here
abbrev pub is_unsupported_type : List ℕ → Bool
is_unsupported_type word = bytes_eq word (codes "imasig|modsig") || bytes_eq word (codes "sigv3")

abbrev pub is_unsupported_template : List ℕ → Bool
is_unsupported_template word =
    bytes_eq word (codes "ima-ngv2") || bytes_eq word (codes "ima-sigv2")
    || bytes_eq word (codes "ima-modsig")
    || bytes_eq word (codes "evm-sig")
