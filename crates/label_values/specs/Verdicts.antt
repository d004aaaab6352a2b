-- The verdict of appraisal, which says whether a file may be used, and the attributes that fix mode
-- writes.
use Rattle.std.specs.Prelude.{ℕ, [], ◌==◌, Bool, true, false, ◌&&◌, ◌||◌, not, List, drop, codes, Option, Some, None, if◌then◌else◌, nat_eq, unwrap_or}
use Rattle.std.specs.List.{starts_with}
use Rattle.hash_algos.specs.AlgoSet.{holds_algo}
use Rattle.hash_algos.specs.declared.algo.Algo.{Algo}
use Rattle.hash_algos.specs.declared.algo_set.AlgoSet.{AlgoSet}
use Rattle.hash_algos.specs.declared.digest.Digest.{Digest}
use Rattle.inode_meta.specs.declared.appraisal.EvmStatus.{EvmStatus}
use Rattle.inode_meta.specs.declared.appraisal.EvmStatus.TheVariants as evm
use Rattle.inode_meta.specs.declared.appraisal.Need.{Need}
use Rattle.inode_meta.specs.declared.appraisal.Need.TheVariants as need
use Rattle.label_values.specs.Labels.{read_label}
use Rattle.label_values.specs.declared.label.Label.{Label}
use Rattle.label_values.specs.declared.label.Label.TheVariants as label
use Rattle.label_values.specs.declared.verdict.Cause.{Cause}
use Rattle.label_values.specs.declared.verdict.Cause.TheVariants as cause
use Rattle.label_values.specs.declared.verdict.Mend.{Mend}
use Rattle.label_values.specs.declared.verdict.Mend.TheVariants as mend
use Rattle.label_values.specs.declared.verdict.Verdict.{Verdict}
use Rattle.label_values.specs.declared.verdict.Verdict.TheVariants.{Pass, Deny}

abbrev pub cause_word : Cause → List ℕ
cause_word cause.DeniedHashAlgorithm = codes "denied-hash-algorithm"
cause_word cause.SignatureRequired = codes "IMA-signature-required"
cause_word cause.MissingHash = codes "missing-hash"
cause_word cause.MissingHmac = codes "missing-HMAC"
cause_word cause.InvalidHmac = codes "invalid-HMAC"
cause_word cause.UnsupportedSignature = codes "unsupported-signature"
cause_word cause.UnknownData = codes "unknown-ima-data"
cause_word cause.InvalidHash = codes "invalid-hash"

-- ---- the conditions of the verdict's cases

abbrev pub wants_signature : Need → Bool
wants_signature need.Any = false
wants_signature need.Signature = true

-- `appraise_algos=` doesn't list the algorithm
abbrev pub is_denied : Option AlgoSet → Algo → Bool
is_denied None algo = false
is_denied (Some set) algo = not (holds_algo set algo)

abbrev pub is_missing : Label → Bool
is_missing label.Missing = true
is_missing _ = false

abbrev pub is_signature : Label → Bool
is_signature label.Signature = true
is_signature _ = false

abbrev pub is_unknown : Label → Bool
is_unknown label.Unknown = true
is_unknown _ = false

abbrev pub lacks_hmac : EvmStatus → Bool
lacks_hmac evm.NoXattrs = true
lacks_hmac evm.NoLabel = true
lacks_hmac _ = false

-- an HMAC in the older form is wrong too
abbrev pub has_wrong_hmac : EvmStatus → Bool
has_wrong_hmac evm.Fail = true
has_wrong_hmac evm.Old = true
has_wrong_hmac _ = false

-- the bytes of the label from the digest's offset on begin with the whole digest
abbrev pub has_digest : Label → Option (List ℕ) → Digest → Bool
has_digest (label.Sum algo from) bytes file =
    starts_with nat_eq (drop from (unwrap_or bytes [])) file.bytes
has_digest _ bytes file = false

-- ---- the verdict

-- the verdict if nothing else is wrong: the algorithm may still be denied
abbrev pub by_algorithm : Option AlgoSet → Algo → Verdict
by_algorithm algos algo = if is_denied algos algo then Deny cause.DeniedHashAlgorithm else Pass

-- the verdict on a file without a label, by the first case that applies
abbrev pub judge_unlabelled : Need → Option AlgoSet → Algo → ℕ → Bool → Verdict
judge_unlabelled need algos algo size new =
    if new && (not (wants_signature need) || size == 0) then by_algorithm algos algo
    else if wants_signature need then Deny cause.SignatureRequired
    else Deny cause.MissingHash

-- the verdict on a file whose label is a digest, matching or not, by the first case that applies
abbrev pub judge_summed : Need → Option AlgoSet → Bool → Algo → Verdict
judge_summed need algos fits algo =
    if wants_signature need then Deny cause.SignatureRequired
    else if not fits then Deny cause.InvalidHash
    else by_algorithm algos algo

-- the verdict on a file with a label, by the first case that applies
abbrev pub judge_labelled : Need → Option AlgoSet → Label → Option (List ℕ) → EvmStatus → Digest
    → Verdict
judge_labelled need algos label bytes status file =
    if lacks_hmac status then Deny cause.MissingHmac
    else if has_wrong_hmac status then Deny cause.InvalidHmac
    else if is_signature label then Deny cause.UnsupportedSignature
    else if is_unknown label then Deny cause.UnknownData
    else judge_summed need algos (has_digest label bytes file) file.algo

-- the verdict on a file. It depends on what the rule requires (the kind of label, the algorithms),
-- the value of `security.ima`, the EVM status, the file's digest by the algorithm of
-- `collect_algo`, the default algorithm, the file's size, and whether the file is new.
abbrev pub judge : Need → Option AlgoSet → Option (List ℕ) → EvmStatus → Digest → Algo → ℕ → Bool
    → Verdict
judge need algos bytes status file default size new =
    if is_missing (read_label bytes default) then judge_unlabelled need algos file.algo size new
    else judge_labelled need algos (read_label bytes default) bytes status file

-- ---- fix mode

abbrev pub is_old : EvmStatus → Bool
is_old evm.Old = true
is_old _ = false

abbrev pub is_pass : Verdict → Bool
is_pass Pass = true
is_pass (Deny _) = false

-- an HMAC in the older form is replaced if nothing but the HMAC was wrong; the label never changes
abbrev pub mend_old : Verdict → Mend
mend_old Pass = mend.Hmac
mend_old (Deny _) = mend.Nothing

-- a label is written again, unless it is a signature
abbrev pub mend_label : Label → Mend
mend_label label.Signature = mend.Nothing
mend_label _ = mend.Label

-- the attributes that fix mode writes on a verdict; `sound` is the verdict that the file would get
-- if its EVM status were Pass
abbrev pub mend_for : Verdict → Verdict → EvmStatus → Label → Mend
mend_for Pass sound status label = mend.Nothing
mend_for (Deny cause.DeniedHashAlgorithm) sound status label = mend.Nothing
mend_for (Deny _) sound status label = if is_old status then mend_old sound else mend_label label
