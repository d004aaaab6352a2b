-- The outcomes of event lines, by the deed: the words after `=`, all of them.
use Rattle.std.specs.Prelude.{ℕ, Bool, true, false, not, List, [], ◌∷◌, codes, map, Option, Some, None, if◌then◌else◌}
use Rattle.std.specs.Str.{bytes_eq}
use Rattle.text_forms.specs.Options.{◌>>=◌}
use Rattle.text_forms.specs.Tables.{look_up}
use Rattle.label_values.specs.Verdicts.{cause_word}
use Rattle.label_values.specs.declared.verdict.Cause.{Cause}
use Rattle.label_values.specs.declared.verdict.Cause.TheVariants as cause
use Rattle.inode_meta.specs.Words.{evm_status_word}
use Rattle.inode_meta.specs.declared.appraisal.EvmStatus.{EvmStatus}
use Rattle.inode_meta.specs.declared.appraisal.EvmStatus.TheVariants as status
use Rattle.report_words.specs.declared.event.Deed.{Deed}
use Rattle.report_words.specs.declared.event.Deed.TheVariants as deed
use Rattle.report_words.specs.declared.event.Grant.{Grant}
use Rattle.report_words.specs.declared.event.Kind.{Kind}
use Rattle.report_words.specs.declared.event.Kind.TheVariants as kind
use Rattle.report_words.specs.declared.event.Outcome.{Outcome}
use Rattle.report_words.specs.declared.event.Outcome.TheVariants as outcome
use Rattle.report_words.specs.declared.event.Placed.{Placed}
use Rattle.report_words.specs.declared.event.Placed.TheVariants as placed
use Rattle.report_words.specs.declared.event.Verdict.{Verdict}
use Rattle.report_words.specs.declared.event.Verdict.TheVariants as verdict
use Rattle.report_words.specs.Forms.{Words, after, after_by, is_among, last_number, number_in, only_by}

-- ---- tables

abbrev pub Table : Type 0
Table = List (List ℕ × Outcome)

-- the words are one, of this table
abbrev pub one_of : Table → Words → Option Outcome
one_of table (w ∷ []) = look_up table w
one_of table _ = None

-- the first outcome, or else the second
abbrev pub or_else : Option Outcome → Option Outcome → Option Outcome
or_else None o = o
or_else (Some x) o = Some x

abbrev pub causes : List Cause
causes =
    cause.DeniedHashAlgorithm ∷ cause.SignatureRequired ∷ cause.MissingHash ∷ cause.MissingHmac
    ∷ cause.InvalidHmac ∷ cause.UnsupportedSignature ∷ cause.UnknownData ∷ cause.InvalidHash ∷ []

abbrev pub is_cause : List ℕ → Bool
is_cause w = is_among (map cause_word causes) w

-- the statuses that forbid a removal or a change of metadata
abbrev pub statuses : List EvmStatus
statuses = status.NoLabel ∷ status.Fail ∷ status.Old ∷ []

abbrev pub is_status : List ℕ → Bool
is_status w = is_among (map evm_status_word statuses) w

-- those that forbid to set an attribute
abbrev pub is_set_status : List ℕ → Bool
is_set_status w = is_among (map evm_status_word (status.NoXattrs ∷ statuses)) w

-- ---- counts and checks

-- a count that creates its file finds it, and one that only reads is never refused as busy
abbrev pub is_write_or_exec : Kind → Bool
is_write_or_exec kind.Read = false
is_write_or_exec _ = true

abbrev pub may_count : Kind → Bool → Outcome → Bool
may_count k create outcome.NotFound = not create
may_count k create outcome.TextBusy = is_write_or_exec k
may_count k create _ = true

abbrev pub if_may : Kind → Bool → Outcome → Option Outcome
if_may k create o = if may_count k create o then Some o else None

abbrev pub count_outcome : Kind → Bool → Words → Option Outcome
count_outcome k create ws =
    one_of ((codes "held", outcome.Held) ∷ (codes "notfound", outcome.NotFound)
    ∷ (codes "textbusy", outcome.TextBusy) ∷ []) ws >>= λ o. if_may k create o

abbrev pub tomtou : Words → Option Outcome
tomtou ws =
    after (codes "tomtou") ws >>= λ rest. last_number rest >>= λ p. Some (outcome.ToMToU p)

abbrev pub violation_by : Words → Option Words → Option Outcome
violation_by ws None = tomtou ws
violation_by ws (Some rest) = last_number rest >>= λ p. Some (outcome.OpenWriters p)

abbrev pub violation : Words → Option Outcome
violation ws = violation_by ws (after (codes "open-writers") ws)

abbrev pub check_outcome : Words → Option Outcome
check_outcome ws = or_else (one_of ((codes "quiet", outcome.Quiet) ∷ []) ws) (violation ws)

-- ---- grants

-- the place of an entry, of which this is said
abbrev pub place_in : Placed → Words → Option (Placed × ℕ × Words)
place_in said ws = number_in ws >>= λ p. Some (said, p.0, p.1)

abbrev pub already_by : Words → Option Words → Option (Placed × ℕ × Words)
already_by ws None = Some (placed.NotMeasured, 0, ws)
already_by ws (Some rest) = number_in rest >>= λ p. Some (placed.Already, p.0, p.1)

abbrev pub already_in : Words → Option (Placed × ℕ × Words)
already_in ws = already_by ws (after (codes "already") ws)

abbrev pub placed_by : Words → Option Words → Option (Placed × ℕ × Words)
placed_by ws None = already_in ws
placed_by ws (Some rest) = number_in rest >>= λ p. Some (placed.Added, p.0, p.1)

-- `added P` or `already P`, if one of them is there, with P, else 0
abbrev pub placed_in : Words → Option (Placed × ℕ × Words)
placed_in ws = placed_by ws (after (codes "added") ws)

abbrev pub denied_by : Words → Option Words → Option (Verdict × Words)
denied_by ws None = Some (verdict.NotAppraised, ws)
denied_by ws (Some rest) = after_by is_cause rest >>= λ r. Some (verdict.Deny, r)

abbrev pub denied_in : Words → Option (Verdict × Words)
denied_in ws = denied_by ws (after (codes "deny") ws)

abbrev pub verdict_by : Words → Option Words → Option (Verdict × Words)
verdict_by ws None = denied_in ws
verdict_by ws (Some rest) = Some (verdict.Pass, rest)

-- `pass` or `deny CAUSE`, if one of them is there
abbrev pub verdict_in : Words → Option (Verdict × Words)
verdict_in ws = verdict_by ws (after (codes "pass") ws)

abbrev pub admitted_by : Words → Option Words → Option (Bool × Words)
admitted_by ws None = after (codes "refused") ws >>= λ rest. Some (false, rest)
admitted_by ws (Some rest) = Some (true, rest)

-- `admitted` or `refused`
abbrev pub admitted_in : Words → Option (Bool × Words)
admitted_in ws = admitted_by ws (after (codes "admitted") ws)

-- `labelled`, or no word
abbrev pub labelled_of : Words → Option Bool
labelled_of [] = Some false
labelled_of (w ∷ []) = if bytes_eq w (codes "labelled") then Some true else None
labelled_of (w ∷ v ∷ ws) = None

abbrev pub grant_with : Placed → ℕ → Verdict → Bool → Bool → Grant
grant_with p entry v admitted labelled = record {
  entry = entry;
  placed = p;
  verdict = v;
  admitted = admitted;
  labelled = labelled;
}

abbrev pub grant_of : Words → Option Grant
grant_of ws =
    placed_in ws >>= λ p. verdict_in p.2 >>= λ v. admitted_in v.1 >>= λ a. labelled_of a.1 >>= λ l.
    Some (grant_with p.0 p.1 v.0 a.0 l)

abbrev pub finish_outcome : Words → Option Outcome
finish_outcome ws = grant_of ws >>= λ g. Some (outcome.Granted g)

abbrev pub take_outcome : Words → Option Outcome
take_outcome ws = or_else (one_of ((codes "begun", outcome.Begun) ∷ []) ws) (finish_outcome ws)

-- ---- the other outcomes

abbrev pub chunk_outcome : Words → Option Outcome
chunk_outcome ws = one_of ((codes "more", outcome.More) ∷ (codes "last", outcome.Last) ∷ []) ws

abbrev pub read_outcome : Words → Option Outcome
read_outcome ws = last_number ws >>= λ n. Some (outcome.Bytes n)

abbrev pub write_outcome : Words → Option Outcome
write_outcome ws = one_of ((codes "done", outcome.Done) ∷ (codes "toobig", outcome.TooBig) ∷ []) ws

abbrev pub set_by : Words → Option Words → Option Outcome
set_by ws None =
    one_of ((codes "done", outcome.Done) ∷ (codes "notfound", outcome.NotFound)
    ∷ (codes "evmname", outcome.EvmName) ∷ (codes "notadmin", outcome.NotAdmin)
    ∷ (codes "toolong", outcome.TooLong) ∷ (codes "invalid", outcome.Invalid) ∷ []) ws
set_by ws (Some rest) = if only_by is_set_status rest then Some outcome.Status else None

abbrev pub set_outcome : Words → Option Outcome
set_outcome ws = set_by ws (after (codes "status") ws)

abbrev pub removal_by : Words → Option Words → Option Outcome
removal_by ws None =
    one_of ((codes "done", outcome.Done) ∷ (codes "notfound", outcome.NotFound)
    ∷ (codes "evmname", outcome.EvmName) ∷ (codes "notadmin", outcome.NotAdmin)
    ∷ (codes "nodata", outcome.NoData) ∷ []) ws
removal_by ws (Some rest) = if only_by is_status rest then Some outcome.Status else None

abbrev pub removal_outcome : Words → Option Outcome
removal_outcome ws = removal_by ws (after (codes "status") ws)

abbrev pub meta_by : Words → Option Words → Option Outcome
meta_by ws None =
    one_of ((codes "done", outcome.Done) ∷ (codes "notfound", outcome.NotFound) ∷ []) ws
meta_by ws (Some rest) = if only_by is_status rest then Some outcome.Status else None

abbrev pub meta_outcome : Words → Option Outcome
meta_outcome ws = meta_by ws (after (codes "status") ws)

abbrev pub close_outcome : Words → Option Outcome
close_outcome ws = one_of ((codes "dropped", outcome.Dropped) ∷ []) ws

abbrev pub close_take_outcome : Words → Option Outcome
close_take_outcome ws =
    one_of ((codes "begun", outcome.Begun) ∷ (codes "dropped", outcome.Dropped) ∷ []) ws

abbrev pub close_finish_by : Words → Option Words → Option Outcome
close_finish_by ws None = close_outcome ws
close_finish_by ws (Some rest) =
    one_of ((codes "dropped", outcome.LabelledDropped) ∷ []) rest

abbrev pub close_finish_outcome : Words → Option Outcome
close_finish_outcome ws = close_finish_by ws (after (codes "labelled") ws)

-- ---- all outcomes

-- the outcome of the deed that all the words are
unfoldable pub outcome_of : Deed → Words → Option Outcome
outcome_of deed.Birth ws = None
outcome_of (deed.Count k create) ws = count_outcome k create ws
outcome_of (deed.Check file) ws = check_outcome ws
outcome_of (deed.Take file) ws = take_outcome ws
outcome_of (deed.Chunk file) ws = chunk_outcome ws
outcome_of (deed.Finish file) ws = finish_outcome ws
outcome_of (deed.Read file from len) ws = read_outcome ws
outcome_of (deed.Write file from len) ws = write_outcome ws
outcome_of (deed.Trunc file len) ws = write_outcome ws
outcome_of deed.SetAttr ws = set_outcome ws
outcome_of deed.RemoveAttr ws = removal_outcome ws
outcome_of deed.SetMeta ws = meta_outcome ws
outcome_of (deed.Close file) ws = close_outcome ws
outcome_of (deed.CloseTake file) ws = close_take_outcome ws
outcome_of (deed.CloseChunk file) ws = chunk_outcome ws
outcome_of (deed.CloseFinish file) ws = close_finish_outcome ws
