-- The words of an event: its place, the step that made it, its deed and its outcome.
use Rattle.std.specs.Prelude.{ℕ, ◌+◌, Bool, true, false, List, [], ◌∷◌, ◌++◌, length, codes, Option, Some, None, unwrap_or, if◌then◌else◌}
use Rattle.report_events.specs.Numerals.{numeral}
use Rattle.std.specs.Fmt.{digits}
use Rattle.std.specs.List.{join_with_byte}
use Rattle.ima_templates.specs.declared.entry.Placed.{Placed}
use Rattle.ima_templates.specs.declared.entry.Placed.TheVariants.{Added, Already}
use Rattle.inode_meta.specs.declared.measurement.Template.{Template}
use Rattle.inode_meta.specs.declared.step.Who.{Who}
use Rattle.inode_meta.specs.Words.{evm_status_word, template_word}
use Rattle.label_values.specs.Verdicts.{cause_word}
use Rattle.label_values.specs.declared.verdict.Verdict.{Verdict}
use Rattle.label_values.specs.declared.verdict.Verdict.TheVariants.{Pass, Deny}
use Rattle.policy_rules.specs.RuleValue.{is_any}
use Rattle.policy_rules.specs.ValueTexts.{func_word}
use Rattle.policy_rules.specs.declared.access.Action.{Action}
use Rattle.inode_events.specs.declared.deed.Change.{Change}
use Rattle.inode_events.specs.declared.deed.Change.TheVariants as change
use Rattle.inode_events.specs.declared.deed.Deed.{Deed}
use Rattle.inode_events.specs.declared.deed.Deed.TheVariants as deed
use Rattle.inode_events.specs.declared.deed.How.{How}
use Rattle.inode_events.specs.declared.deed.How.TheVariants as how
use Rattle.inode_events.specs.declared.told.Event.{Event}
use Rattle.inode_events.specs.declared.told.Grant.{Grant}
use Rattle.inode_events.specs.declared.told.Told.{Told}
use Rattle.inode_events.specs.declared.told.Told.TheVariants as told

-- a line of a report, as its words
abbrev pub Line : Type 0
Line = List (List ℕ)

abbrev pub who_word : Who → List ℕ
who_word w = join_with_byte 46 (numeral w.task ∷ numeral w.call ∷ numeral w.step ∷ [])

-- ---- deeds

abbrev pub create_words : Bool → Line
create_words true = codes "create" ∷ []
create_words false = []

abbrev pub how_words : How → Line
how_words (how.Read create) = codes "r" ∷ create_words create
how_words (how.Write read create) = (if read then codes "rw" else codes "w") ∷ create_words create
how_words how.Exec = codes "x" ∷ []

abbrev pub measure_words : Bool → ℕ → Template → Line
measure_words true pcr template = codes "measure" ∷ numeral pcr ∷ template_word template ∷ []
measure_words false pcr template = []

-- the word of appraisal, which says whether a signature is required
abbrev pub appraise_words : Bool → Bool → Line
appraise_words true any = (if any then codes "appraise" else codes "appraise-sig") ∷ []
appraise_words false any = []

abbrev pub flag_words : List ℕ → Bool → Line
flag_words word true = word ∷ []
flag_words word false = []

abbrev pub or_dash : Line → Line
or_dash [] = codes "-" ∷ []
or_dash (w ∷ ws) = w ∷ ws

-- the words of a check's actions, with the template that a measurement uses
abbrev pub acts_words : Template → Action → Line
acts_words default a =
    or_dash (measure_words a.measure a.pcr (unwrap_or a.template default)
    ++ appraise_words a.appraise (is_any a.need)
    ++ flag_words (codes "audit") a.audit ++ flag_words (codes "hash") a.hash)

-- the number of rules, which is shown only if the run can append rules
abbrev pub rules_words : Bool → ℕ → Line
rules_words true n = codes "rules" ∷ numeral n ∷ []
rules_words false n = []

abbrev pub length_word : Option (List ℕ) → List ℕ
length_word None = codes "-"
length_word (Some bytes) = numeral (length bytes)

abbrev pub change_words : Change → Line
change_words (change.Mode mode) = codes "mode" ∷ digits 8 false mode ∷ []
change_words (change.Owner uid gid) = codes "owner" ∷ numeral uid ∷ numeral gid ∷ []

abbrev pub deed_words : Template → Bool → Deed → Line
deed_words default grows deed.Birth = codes "birth" ∷ []
deed_words default grows (deed.Count how) = codes "count" ∷ how_words how
deed_words default grows (deed.Check file func action rules) =
    codes "check" ∷ numeral file ∷ func_word func ∷ rules_words grows rules
    ++ acts_words default action
deed_words default grows (deed.Take file) = codes "take" ∷ numeral file ∷ []
deed_words default grows (deed.Chunk file) = codes "chunk" ∷ numeral file ∷ []
deed_words default grows (deed.Finish file) = codes "finish" ∷ numeral file ∷ []
deed_words default grows (deed.Read file from len) = codes "read" ∷ numeral file ∷ numeral from
    ∷ numeral len ∷ []
deed_words default grows (deed.Write file from bytes) = codes "write" ∷ numeral file ∷ numeral from
    ∷ numeral (length bytes) ∷ []
deed_words default grows (deed.Trunc file len) = codes "trunc" ∷ numeral file ∷ numeral len ∷ []
deed_words default grows (deed.SetAttr name bytes admin) = codes "set-attr" ∷ name
    ∷ length_word bytes ∷ []
deed_words default grows (deed.SetMeta change) = codes "set-meta" ∷ change_words change
deed_words default grows (deed.Close file) = codes "close" ∷ numeral file ∷ []
deed_words default grows (deed.CloseTake file) = codes "close-take" ∷ numeral file ∷ []
deed_words default grows (deed.CloseChunk file) = codes "close-chunk" ∷ numeral file ∷ []
deed_words default grows (deed.CloseFinish file) = codes "close-finish" ∷ numeral file ∷ []
deed_words default grows (deed.Post sem) = codes "post" ∷ numeral sem ∷ []
deed_words default grows (deed.Wait sem) = codes "wait" ∷ numeral sem ∷ []

-- ---- outcomes

abbrev pub placed_words : Option Placed → Line
placed_words None = []
placed_words (Some (Added place)) = codes "added" ∷ numeral place ∷ []
placed_words (Some (Already place)) = codes "already" ∷ numeral place ∷ []

abbrev pub verdict_words : Option Verdict → Line
verdict_words None = []
verdict_words (Some Pass) = codes "pass" ∷ []
verdict_words (Some (Deny cause)) = codes "deny" ∷ cause_word cause ∷ []

abbrev pub admitted_words : Bool → Bool → Line
admitted_words admitted labelled = (if admitted then codes "admitted" else codes "refused")
    ∷ flag_words (codes "labelled") labelled

abbrev pub grant_words : Grant → Line
grant_words g = placed_words g.placed ++ verdict_words g.verdict
    ++ admitted_words g.admitted g.labelled

abbrev pub told_words : Told → Line
told_words (told.Image image) = codes "image" ∷ []
told_words told.Held = codes "held" ∷ []
told_words told.NotFound = codes "notfound" ∷ []
told_words told.TextBusy = codes "textbusy" ∷ []
told_words told.Quiet = codes "quiet" ∷ []
told_words (told.OpenWriters place) = codes "open-writers" ∷ numeral place ∷ []
told_words (told.ToMToU place) = codes "tomtou" ∷ numeral place ∷ []
told_words told.Begun = codes "begun" ∷ []
told_words (told.Grant grant) = grant_words grant
told_words told.More = codes "more" ∷ []
told_words told.Last = codes "last" ∷ []
told_words (told.Read n digest) = numeral n ∷ []
told_words told.Done = codes "done" ∷ []
told_words told.TooBig = codes "toobig" ∷ []
told_words told.EvmName = codes "evmname" ∷ []
told_words told.NotAdmin = codes "notadmin" ∷ []
told_words told.TooLong = codes "toolong" ∷ []
told_words told.Invalid = codes "invalid" ∷ []
told_words told.NoData = codes "nodata" ∷ []
told_words (told.Status status) = codes "status" ∷ evm_status_word status ∷ []
told_words told.Dropped = codes "dropped" ∷ []
told_words told.LabelledDropped = codes "labelled" ∷ codes "dropped" ∷ []
told_words told.Nothing = codes "nothing" ∷ []

-- ---- events

-- the words of an event after its place
abbrev pub step_words : Template → Bool → Who → Deed → Told → Line
step_words default grows who deed.Birth t = codes "birth" ∷ []
step_words default grows who d t = who_word who ∷ deed_words default grows d ++ codes "="
    ∷ told_words t

abbrev pub event_words : Template → Bool → ℕ → Event → Line
event_words default grows place e = numeral place ∷ step_words default grows e.who e.deed e.told

abbrev pub event_lines : Template → Bool → ℕ → List Event → List Line
event_lines default grows place [] = []
event_lines default grows place (e ∷ es) = event_words default grows place e
    ∷ event_lines default grows (place + 1) es
