-- The deeds of event lines: each definition gives the deed that the words begin with, and the words
-- after it.
use Rattle.std.specs.Prelude.{ℕ, Bool, true, false, List, [], ◌∷◌, codes, map, Option, Some, None, is_some, if◌then◌else◌}
use Rattle.text_forms.specs.Options.{◌>>=◌}
use Rattle.text_forms.specs.Tables.{look_up}
use Rattle.inode_meta.specs.Words.{template_word}
use Rattle.inode_meta.specs.declared.measurement.Template.{Template}
use Rattle.inode_meta.specs.declared.measurement.Template.TheVariants as template
use Rattle.policy_rules.specs.ValueTexts.{func_word}
use Rattle.policy_rules.specs.declared.rule.Func.{Func}
use Rattle.policy_rules.specs.declared.rule.Func.TheVariants as func
use Rattle.report_words.specs.declared.deeds.DeedWord.{DeedWord}
use Rattle.report_words.specs.declared.deeds.DeedWord.TheVariants as word
use Rattle.report_words.specs.declared.event.Deed.{Deed}
use Rattle.report_words.specs.declared.event.Deed.TheVariants as deed
use Rattle.report_words.specs.declared.event.Kind.{Kind}
use Rattle.report_words.specs.declared.event.Kind.TheVariants as kind
use Rattle.report_words.specs.Forms.{Words, after, after_by, is_among, is_any, is_pcr, number_in, without}
use Rattle.script_words.specs.Forms.{mode_of}

-- ---- `count KIND`, with `create` after it if given

abbrev pub kind_of : List ℕ → Option Kind
kind_of word = look_up ((codes "r", kind.Read) ∷ (codes "w", kind.Write)
    ∷ (codes "rw", kind.ReadWrite) ∷ (codes "x", kind.Exec) ∷ []) word

abbrev pub created : Kind → Words → Option Words → Deed × Words
created k ws None = (deed.Count k false, ws)
created k ws (Some rest) = (deed.Count k true, rest)

abbrev pub is_exec : Kind → Bool
is_exec kind.Exec = true
is_exec _ = false

-- an execution creates nothing
abbrev pub count_by : Kind → Words → Deed × Words
count_by k ws =
    if is_exec k then (deed.Count k false, ws) else created k ws (after (codes "create") ws)

abbrev pub count_in : Words → Option (Deed × Words)
count_in [] = None
count_in (w ∷ ws) = kind_of w >>= λ k. Some (count_by k ws)

-- ---- `check FILE FUNC ACTS`, with `rules N` before ACTS if the run can append rules

abbrev pub templates : List Template
templates = template.Ima ∷ template.ImaNg ∷ template.ImaSig ∷ template.ImaBuf ∷ []

abbrev pub is_template : List ℕ → Bool
is_template w = is_among (map template_word templates) w

abbrev pub funcs : List Func
funcs =
    func.BprmCheck ∷ func.MmapCheck ∷ func.FileCheck ∷ func.CredsCheck ∷ func.ModuleCheck
    ∷ func.FirmwareCheck ∷ func.KexecKernelCheck ∷ func.KexecInitramfsCheck ∷ func.KexecCmdline
    ∷ func.KeyCheck ∷ func.CriticalData ∷ func.SetxattrCheck ∷ func.PolicyCheck
    ∷ func.MmapCheckReqprot ∷ []

abbrev pub is_func : List ℕ → Bool
is_func w = is_among (map func_word funcs) w

abbrev pub ruled_by : Words → Option Words → Option Words
ruled_by ws None = Some ws
ruled_by ws (Some rest) = number_in rest >>= λ n. Some n.1

-- the words after `rules N`, if it is there
abbrev pub ruled : Words → Option Words
ruled ws = ruled_by ws (after (codes "rules") ws)

abbrev pub measured_by : Words → Option Words → Option Words
measured_by ws None = Some ws
measured_by ws (Some rest) = after_by is_pcr rest >>= λ t. after_by is_template t

-- the words after `measure PCR TEMPLATE`, if it is there
abbrev pub measured : Words → Option Words
measured ws = measured_by ws (after (codes "measure") ws)

abbrev pub is_appraise : List ℕ → Bool
is_appraise w = is_among (codes "appraise" ∷ codes "appraise-sig" ∷ []) w

-- the words after `appraise` or `appraise-sig`, if one of them is there
abbrev pub appraised : Words → Words
appraised [] = []
appraised (w ∷ ws) = if is_appraise w then ws else w ∷ ws

-- the first word of an act
abbrev pub is_act : List ℕ → Bool
is_act w = is_among (codes "measure" ∷ codes "appraise" ∷ codes "appraise-sig" ∷ codes "audit"
    ∷ codes "hash" ∷ []) w

abbrev pub begins_with_act : Words → Bool
begins_with_act [] = false
begins_with_act (w ∷ ws) = is_act w

abbrev pub all_acts : Words → Option Words
all_acts ws =
    measured ws
    >>= λ a. Some (without (codes "hash") (without (codes "audit") (appraised a)))

abbrev pub some_acts : Words → Option Words
some_acts ws = if begins_with_act ws then all_acts ws else None

abbrev pub acts_by : Words → Option Words → Option Words
acts_by ws None = some_acts ws
acts_by ws (Some rest) = Some rest

-- the words after ACTS: a dash, or at least one act
abbrev pub acts_in : Words → Option Words
acts_in ws = acts_by ws (after (codes "-") ws)

abbrev pub check_in : Words → Option (Deed × Words)
check_in ws =
    number_in ws >>= λ f. after_by is_func f.1 >>= λ r. ruled r >>= λ a. acts_in a >>= λ rest.
    Some (deed.Check f.0, rest)

-- ---- the other deeds

abbrev pub read_in : Words → Option (Deed × Words)
read_in ws =
    number_in ws >>= λ f. number_in f.1 >>= λ o. number_in o.1 >>= λ n.
    Some (deed.Read f.0 o.0 n.0, n.1)

abbrev pub write_in : Words → Option (Deed × Words)
write_in ws =
    number_in ws >>= λ f. number_in f.1 >>= λ o. number_in o.1 >>= λ n.
    Some (deed.Write f.0 o.0 n.0, n.1)

abbrev pub trunc_in : Words → Option (Deed × Words)
trunc_in ws = number_in ws >>= λ f. number_in f.1 >>= λ n. Some (deed.Trunc f.0 n.0, n.1)

abbrev pub set_by : Words → Option Words → Option (Deed × Words)
set_by ws None = number_in ws >>= λ n. Some (deed.SetAttr, n.1)
set_by ws (Some rest) = Some (deed.RemoveAttr, rest)

-- `set-attr NAME LEN`, or a dash in place of the length for a removal
abbrev pub set_attr_in : Words → Option (Deed × Words)
set_attr_in ws = after_by is_any ws >>= λ rest. set_by rest (after (codes "-") rest)

abbrev pub is_mode : List ℕ → Bool
is_mode word = is_some (mode_of word)

abbrev pub owner_in : Words → Option (Deed × Words)
owner_in ws =
    after (codes "owner") ws >>= λ o. number_in o >>= λ u. number_in u.1 >>= λ g.
    Some (deed.SetMeta, g.1)

abbrev pub meta_by : Words → Option Words → Option (Deed × Words)
meta_by ws None = owner_in ws
meta_by ws (Some rest) = after_by is_mode rest >>= λ r. Some (deed.SetMeta, r)

-- `set-meta mode OCTAL` or `set-meta owner UID GID`
abbrev pub set_meta_in : Words → Option (Deed × Words)
set_meta_in ws = meta_by ws (after (codes "mode") ws)

-- ---- all deeds

abbrev pub word_of : List ℕ → Option DeedWord
word_of text =
    look_up
    ((codes "count", word.Count) ∷ (codes "check", word.Check) ∷ (codes "take", word.Take)
    ∷ (codes "chunk", word.Chunk) ∷ (codes "finish", word.Finish) ∷ (codes "read", word.Read)
    ∷ (codes "write", word.Write) ∷ (codes "trunc", word.Trunc) ∷ (codes "set-attr", word.SetAttr)
    ∷ (codes "set-meta", word.SetMeta) ∷ (codes "close", word.Close)
    ∷ (codes "close-take", word.CloseTake) ∷ (codes "close-chunk", word.CloseChunk)
    ∷ (codes "close-finish", word.CloseFinish) ∷ []) text

-- the deed of a word after which stands its file alone
abbrev pub file_deed : DeedWord → ℕ → Option Deed
file_deed word.Take file = Some (deed.Take file)
file_deed word.Chunk file = Some (deed.Chunk file)
file_deed word.Finish file = Some (deed.Finish file)
file_deed word.Close file = Some (deed.Close file)
file_deed word.CloseTake file = Some (deed.CloseTake file)
file_deed word.CloseChunk file = Some (deed.CloseChunk file)
file_deed word.CloseFinish file = Some (deed.CloseFinish file)
file_deed _ file = None

abbrev pub file_deed_in : DeedWord → Words → Option (Deed × Words)
file_deed_in word ws = number_in ws >>= λ f. file_deed word f.0 >>= λ d. Some (d, f.1)

-- the deed whose first word is this, by the words after it
unfoldable pub deed_by : DeedWord → Words → Option (Deed × Words)
deed_by word.Count ws = count_in ws
deed_by word.Check ws = check_in ws
deed_by word.Take ws = number_in ws >>= λ f. Some (deed.Take f.0, f.1)
deed_by word.Chunk ws = number_in ws >>= λ f. Some (deed.Chunk f.0, f.1)
deed_by word.Finish ws = number_in ws >>= λ f. Some (deed.Finish f.0, f.1)
deed_by word.Read ws = read_in ws
deed_by word.Write ws = write_in ws
deed_by word.Trunc ws = trunc_in ws
deed_by word.SetAttr ws = set_attr_in ws
deed_by word.SetMeta ws = set_meta_in ws
deed_by word.Close ws = number_in ws >>= λ f. Some (deed.Close f.0, f.1)
deed_by word.CloseTake ws = number_in ws >>= λ f. Some (deed.CloseTake f.0, f.1)
deed_by word.CloseChunk ws = number_in ws >>= λ f. Some (deed.CloseChunk f.0, f.1)
deed_by word.CloseFinish ws = number_in ws >>= λ f. Some (deed.CloseFinish f.0, f.1)

unfoldable pub deed_in : Words → Option (Deed × Words)
deed_in [] = None
deed_in (w ∷ ws) = word_of w >>= λ k. deed_by k ws
