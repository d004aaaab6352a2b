-- The printed words of the plain values.
use Rattle.std.specs.Prelude.{ℕ, List, codes}
use Rattle.inode_meta.specs.declared.appraisal.EvmStatus.TheVariants as status
use Rattle.inode_meta.specs.declared.appraisal.EvmStatus.{EvmStatus}
use Rattle.inode_meta.specs.declared.appraisal.Mode.TheVariants as mode
use Rattle.inode_meta.specs.declared.appraisal.Mode.{Mode}
use Rattle.inode_meta.specs.declared.measurement.Template.TheVariants as template
use Rattle.inode_meta.specs.declared.measurement.Template.{Template}
use Rattle.inode_meta.specs.declared.measurement.Bank.TheVariants as bank
use Rattle.inode_meta.specs.declared.measurement.Bank.{Bank}

abbrev pub evm_status_word : EvmStatus → List ℕ
evm_status_word status.Pass = codes "pass"
evm_status_word status.NoXattrs = codes "no-xattrs"
evm_status_word status.NoLabel = codes "no-label"
evm_status_word status.Fail = codes "fail"
evm_status_word status.Old = codes "old"
evm_status_word status.Unknown = codes "unknown"

abbrev pub mode_word : Mode → List ℕ
mode_word mode.Enforce = codes "enforce"
mode_word mode.Log = codes "log"
mode_word mode.Fix = codes "fix"
mode_word mode.Off = codes "off"

abbrev pub template_word : Template → List ℕ
template_word template.Ima = codes "ima"
template_word template.ImaNg = codes "ima-ng"
template_word template.ImaSig = codes "ima-sig"
template_word template.ImaBuf = codes "ima-buf"

abbrev pub bank_word : Bank → List ℕ
bank_word bank.Sha1 = codes "sha1"
bank_word bank.Sha256 = codes "sha256"
