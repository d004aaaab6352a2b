-- The report of a run: lines of words, and their bytes.
use Rattle.std.specs.Prelude.{ℕ, zero, suc, ◌+◌, ◌/◌, ◌%◌, ◌==◌, nat_lt, Bool, true, false, List, [], ◌∷◌, ◌++◌, length, codes, map, count_by, Option, Some, None, if◌then◌else◌}
use Rattle.report_events.specs.Numerals.{numeral}
use Rattle.std.specs.List.{list_all, list_any}
use Rattle.hex.specs.Hex.{encode_lower}
use Rattle.hash_algos.specs.Algo.{algo_name}
use Rattle.hash_algos.specs.declared.digest.Digest.{Digest}
use Rattle.ima_templates.specs.Digests.{template_digest}
use Rattle.pcr_bank.specs.Banks.{register}
use Rattle.pcr_bank.specs.declared.banks.Banks.{Banks}
use Rattle.ima_templates.specs.declared.entry.Entry.{Entry}
use Rattle.inode_meta.specs.Fields.{template_fields}
use Rattle.inode_meta.specs.Words.{evm_status_word, template_word}
use Rattle.inode_meta.specs.declared.measurement.Bank.TheVariants.{Sha1, Sha256}
use Rattle.inode_meta.specs.declared.measurement.Template.{Template}
use Rattle.label_values.specs.Verdicts.{cause_word}
use Rattle.list_format.specs.Line.{field_text}
use Rattle.policy_text.specs.Spelling.{rule_text}
use Rattle.text_forms.specs.Words.{words, text_of}
use Rattle.xattr_store.specs.Attrs.{Pair}
use Rattle.report_events.specs.Words.{Line, event_lines, who_word}
use Rattle.inode_events.specs.EndedInode.{EndedInodeValue as EndedInode}
use Rattle.run_model.specs.EndedValue.{EndedTaskValue as EndedTask, EndedValue as Ended}
use Rattle.policy_cell.specs.declared.cell.RuleEntry.{RuleEntry}
use Rattle.call_steps.specs.declared.reply.Reply.{Reply}
use Rattle.call_steps.specs.declared.reply.Reply.TheVariants as reply

-- ---- the list

-- a register's number, right-aligned in a width of 2: below 10 it follows an empty word
abbrev pub pcr_words : ℕ → Line
pcr_words pcr = if nat_lt pcr 10 then [] ∷ ((48 + pcr % 10) ∷ [])
    ∷ [] else ((48 + pcr / 10) ∷ (48 + pcr % 10) ∷ []) ∷ []

-- the words of the line in `ascii_runtime_measurements`
abbrev pub entry_words : Entry → Line
entry_words e =
    pcr_words e.pcr ++ encode_lower (template_digest e Sha1).bytes ∷ template_word e.template
    ∷ map (λ f. field_text f e) (template_fields e.template)

-- ---- the registers

abbrev pub pcr_lines_at : Banks → ℕ → Bool → List Line
pcr_lines_at banks pcr false = []
pcr_lines_at banks pcr true =
    (codes "pcr" ∷ codes "sha1" ∷ numeral pcr ∷ encode_lower (register banks Sha1 pcr) ∷ [])
    ∷ (codes "pcr" ∷ codes "sha256" ∷ numeral pcr ∷ encode_lower (register banks Sha256 pcr) ∷ [])
    ∷ []

-- the lines of the registers below n that an entry extends
abbrev pub pcr_lines_to : List Entry → Banks → ℕ → List Line
pcr_lines_to list banks zero = []
pcr_lines_to list banks (suc n) =
    pcr_lines_to list banks n ++ pcr_lines_at banks n (list_any (λ e. e.pcr == n) list)

abbrev pub pcr_lines : List Entry → Banks → List Line
pcr_lines list banks = pcr_lines_to list banks 24

-- ---- the appended rules

abbrev pub rule_line : ℕ → RuleEntry → Line
rule_line place r = codes "rule" ∷ numeral place ∷ who_word r.who ∷ words (rule_text r.rule)

abbrev pub rule_lines : ℕ → List RuleEntry → List Line
rule_lines place [] = []
rule_lines place (r ∷ rs) = rule_line place r ∷ rule_lines (place + 1) rs

abbrev pub appended_lines : Bool → ℕ → List RuleEntry → List Line
appended_lines true base rules = (codes "appended" ∷ numeral (length rules) ∷ [])
    ∷ rule_lines base rules
appended_lines false base rules = []

-- ---- the inodes

abbrev pub force_word : Option Digest → List ℕ
force_word None = codes "none"
force_word (Some digest) = algo_name digest.algo ++ codes ":" ++ encode_lower digest.bytes

abbrev pub attr_line : Pair → Line
attr_line pair = pair.0 ∷ encode_lower pair.1 ∷ []

abbrev pub inode_head : ℕ → EndedInode → Line
inode_head number i =
    codes "inode" ∷ numeral number ∷ i.path ∷ codes "writers" ∷ numeral i.writers
    ∷ codes "readers" ∷ numeral i.readers ∷ codes "execs" ∷ numeral i.execs ∷ []

abbrev pub inode_lines : Template → Bool → ℕ → EndedInode → List Line
inode_lines default grows number i =
    inode_head number i
    ∷ (codes "force" ∷ force_word i.force ∷ [])
    ∷ (codes "attrs" ∷ numeral (length i.attrs) ∷ [])
    ∷ map attr_line i.attrs
    ++ (codes "events" ∷ numeral (length i.journal) ∷ [])
    ∷ event_lines default grows 0 i.journal

abbrev pub all_inode_lines : Template → Bool → ℕ → List EndedInode → List Line
all_inode_lines default grows number [] = []
all_inode_lines default grows number (i ∷ rest) = inode_lines default grows number i
    ++ all_inode_lines default grows (number + 1) rest

-- ---- the tasks

abbrev pub reply_words : Reply → Line
reply_words reply.Done = codes "ok" ∷ []
reply_words (reply.Bytes n digest) = codes "ok" ∷ numeral n ∷ encode_lower digest.bytes ∷ []
reply_words reply.NotFound = codes "ENOENT" ∷ []
reply_words reply.BadFile = codes "EBADF" ∷ []
reply_words reply.TextBusy = codes "ETXTBSY" ∷ []
reply_words reply.TooBig = codes "EFBIG" ∷ []
reply_words reply.TooLong = codes "E2BIG" ∷ []
reply_words reply.NoData = codes "ENODATA" ∷ []
reply_words reply.Invalid = codes "EINVAL" ∷ []
reply_words reply.EvmName = codes "EPERM" ∷ codes "evm-attribute" ∷ []
reply_words reply.NotAdmin = codes "EPERM" ∷ codes "admin" ∷ []
reply_words (reply.Status status) = codes "EPERM" ∷ evm_status_word status ∷ []
reply_words (reply.Denied cause) = codes "EACCES" ∷ cause_word cause ∷ []

abbrev pub reply_lines : ℕ → List Reply → List Line
reply_lines call [] = []
reply_lines call (r ∷ rs) = (numeral call ∷ reply_words r) ∷ reply_lines (call + 1) rs

abbrev pub task_lines : ℕ → EndedTask → List Line
task_lines number t =
    (codes "task" ∷ numeral number ∷ (if t.done then codes "done" else codes "unfinished") ∷ [])
    ∷ reply_lines 0 t.replies

abbrev pub all_task_lines : ℕ → List EndedTask → List Line
all_task_lines number [] = []
all_task_lines number (t ∷ rest) = task_lines number t ++ all_task_lines (number + 1) rest

-- ---- the whole

abbrev pub ending_word : Ended → List ℕ
ending_word e = if e.stuck then codes "stuck" else if list_all (λ t. t.done) e.tasks
    then codes "done" else codes "unfinished"

abbrev pub head_lines : Ended → List Line
head_lines e =
    (codes "imakern" ∷ codes "report" ∷ codes "1" ∷ [])
    ∷ (codes "run" ∷ ending_word e ∷ [])
    ∷ (codes "list" ∷ numeral (length e.list) ∷ codes "violations"
    ∷ numeral (count_by (λ x. x.violation) e.list) ∷ []) ∷ []

abbrev pub report_lines : Ended → List Line
report_lines e =
    head_lines e
    ++ (map entry_words e.list
    ++ (pcr_lines e.list e.banks
    ++ (appended_lines e.grows e.base e.rules
    ++ (all_inode_lines e.template e.grows 0 e.inodes
    ++ (all_task_lines 0 e.tasks
    ++ (codes "end" ∷ []) ∷ [])))))

abbrev pub report_of : Ended → List ℕ
report_of e = text_of (report_lines e)
