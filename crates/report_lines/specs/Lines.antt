-- The lines of a report, by their words.
use Rattle.std.specs.Prelude.{ℕ, ◌==◌, Bool, true, false, not, ◌||◌, List, [], ◌∷◌, codes, Option, Some, None, if◌then◌else◌}
use Rattle.std.specs.Str.{bytes_eq}
use Rattle.text_forms.specs.Options.{◌>>=◌}
use Rattle.text_forms.specs.Tables.{look_up}
use Rattle.text_forms.specs.Tokens.{is_filled}
use Rattle.inode_meta.specs.declared.measurement.Template.{Template}
use Rattle.inode_meta.specs.declared.measurement.Template.TheVariants as template
use Rattle.inode_meta.specs.declared.step.Who.{Who}
use Rattle.report_words.specs.declared.event.Deed.{Deed}
use Rattle.report_words.specs.declared.event.Deed.TheVariants as deed
use Rattle.report_words.specs.declared.event.Event.{Event}
use Rattle.report_words.specs.declared.event.Outcome.{Outcome}
use Rattle.report_words.specs.declared.event.Outcome.TheVariants as outcome
use Rattle.report_words.specs.declared.event.Span.{Span}
use Rattle.report_lines.specs.declared.report.InodeHead.{InodeHead}
use Rattle.report_lines.specs.declared.report.RunEnd.{RunEnd}
use Rattle.report_lines.specs.declared.report.RunEnd.TheVariants as run
use Rattle.report_words.specs.Deeds.{deed_in}
use Rattle.report_words.specs.Forms.{Words, after, after_by, counted, is_among, is_any, is_digest, is_hex, is_named_digest, is_whole, is_wide_pcr, number_in, only_by, step_at, who_in}
use Rattle.report_words.specs.Outcomes.{is_cause, is_set_status, outcome_of}

-- `WORD N`, and the words after it
abbrev pub named_number : List ℕ → Words → Option (ℕ × Words)
named_number word ws = after word ws >>= λ a. number_in a

-- ---- the first three lines

abbrev pub after_version : Words → Option Words
after_version ws =
    after (codes "imakern") ws >>= λ a. after (codes "report") a >>= λ b. after (codes "1") b

-- `imakern report 1`
abbrev pub is_version : Words → Bool
is_version ws = is_whole (after_version ws)

abbrev pub end_of : Words → Option RunEnd
end_of (w ∷ []) = look_up ((codes "done", run.Done) ∷ (codes "unfinished", run.Unfinished)
    ∷ (codes "stuck", run.Stuck) ∷ []) w
end_of _ = None

-- `run ENDING`
abbrev pub run_of : Words → Option RunEnd
run_of ws = after (codes "run") ws >>= λ a. end_of a

-- `list N violations V`
abbrev pub list_of : Words → Option (ℕ × ℕ)
list_of ws =
    named_number (codes "list") ws >>= λ n. counted (codes "violations") n.1 >>= λ v. Some (n.0, v)

-- ---- the list, its registers, and the appended rules

-- there is a first word, and it isn't empty
abbrev pub first_is_filled : Words → Bool
first_is_filled [] = false
first_is_filled (w ∷ ws) = is_filled w

-- the words after a register's number, which is right-aligned in a width of 2
abbrev pub after_padded_pcr : Words → Option Words
after_padded_pcr ws =
    if first_is_filled ws then after_by (is_wide_pcr 2) ws
    else after_by is_any ws >>= λ a. after_by (is_wide_pcr 1) a

abbrev pub template_of : List ℕ → Option Template
template_of w = look_up ((codes "ima", template.Ima) ∷ (codes "ima-ng", template.ImaNg)
    ∷ (codes "ima-sig", template.ImaSig) ∷ (codes "ima-buf", template.ImaBuf) ∷ []) w

abbrev pub template_in : Words → Option (Template × Words)
template_in [] = None
template_in (w ∷ ws) = template_of w >>= λ t. Some (t, ws)

-- a digest with its algorithm, and a name
abbrev pub after_ng : Words → Option Words
after_ng ws = after_by is_named_digest ws >>= λ a. after_by is_any a

abbrev pub after_fields : Template → Words → Option Words
after_fields template.Ima ws = after_by is_hex ws >>= λ a. after_by is_any a
after_fields template.ImaNg ws = after_ng ws
after_fields template.ImaSig ws = after_ng ws >>= λ a. after_by is_hex a
after_fields template.ImaBuf ws = after_ng ws >>= λ a. after_by is_hex a

abbrev pub after_entry : Words → Option Words
after_entry ws =
    after_padded_pcr ws >>= λ a. after_by (is_digest 20) a >>= λ b. template_in b >>= λ t.
    after_fields t.0 t.1

-- the line of an entry
unfoldable pub is_entry : Words → Bool
is_entry ws = is_whole (after_entry ws)

abbrev pub if_whole : ℕ → Option Words → Option ℕ
if_whole pcr rest = if is_whole rest then Some pcr else None

-- `pcr BANK P HEX`: the register
abbrev pub register_of : List ℕ → ℕ → Words → Option ℕ
register_of bank size ws =
    after (codes "pcr") ws >>= λ a. named_number bank a >>= λ p.
    if_whole p.0 (after_by (is_digest size) p.1)

abbrev pub if_filled : ℕ → Words → Option ℕ
if_filled place rest = if first_is_filled rest then Some place else None

-- `rule PLACE TASK.CALL.STEP TEXT`: the place
abbrev pub rule_of : Words → Option ℕ
rule_of ws =
    named_number (codes "rule") ws >>= λ p. who_in p.1 >>= λ w. if_filled p.0 w.1

-- ---- the lines of an inode

abbrev pub head_at : Span → ℕ → ℕ → ℕ → InodeHead
head_at line writers readers execs = record {
  line = line;
  force = line;
  writers = writers;
  readers = readers;
  execs = execs;
}

abbrev pub head_with : Span → Words → Option InodeHead
head_with line ws =
    named_number (codes "writers") ws >>= λ w. named_number (codes "readers") w.1 >>= λ r.
    counted (codes "execs") r.1 >>= λ x.
    Some (head_at line w.0 r.0 x)

-- `inode I PATH writers W readers R execs X`: the number, and the head until its line of the digest
-- in force is read
unfoldable pub inode_of : Span → Words → Option (ℕ × InodeHead)
inode_of line ws =
    named_number (codes "inode") ws >>= λ i. after_by is_any i.1 >>= λ a. head_with line a >>= λ h.
    Some (i.0, h)

abbrev pub is_force_word : List ℕ → Bool
is_force_word w = bytes_eq w (codes "none") || is_named_digest w

-- `force ALGO:HEX` or `force none`
abbrev pub is_force : Words → Bool
is_force ws = is_whole (after (codes "force") ws >>= λ a. after_by is_force_word a)

abbrev pub after_name : Words → Option Words
after_name ws = if first_is_filled ws then after_by is_any ws else None

-- `NAME HEX`
abbrev pub is_attr : Words → Bool
is_attr ws = is_whole (after_name ws >>= λ a. after_by is_hex a)

-- ---- events

abbrev pub event_with : Span → Who → Deed → Outcome → Event
event_with line who d o = record { line = line; who = who; deed = d; outcome = o }

abbrev pub birth_event : Span → Event
birth_event line = event_with line (step_at 0 0 0) deed.Birth outcome.Born

abbrev pub birth_of : Span → Words → Option Event
birth_of line ws = if is_whole (after (codes "birth") ws) then Some (birth_event line) else None

-- `TASK.CALL.STEP DEED = OUTCOME`
abbrev pub step_of : Span → Words → Option Event
step_of line ws =
    who_in ws >>= λ w. deed_in w.1 >>= λ d. after (codes "=") d.1 >>= λ a.
    outcome_of d.0 a >>= λ o.
    Some (event_with line w.0 d.0 o)

abbrev pub event_at : ℕ → Span → ℕ × Words → Option Event
event_at place line p =
    if not (p.0 == place) then None
    else if place == 0 then birth_of line p.1
    else step_of line p.1

-- the event of this place: the first is the birth
unfoldable pub event_of : ℕ → Span → Words → Option Event
event_of place line ws = number_in ws >>= λ p. event_at place line p

-- ---- the lines of a task

abbrev pub done_of : Words → Option Bool
done_of (w ∷ []) = look_up ((codes "done", true) ∷ (codes "unfinished", false) ∷ []) w
done_of _ = None

-- `task T done` or `task T unfinished`
abbrev pub task_of : Words → Option (ℕ × Bool)
task_of ws = named_number (codes "task") ws >>= λ t. done_of t.1 >>= λ d. Some (t.0, d)

abbrev pub is_bytes : Words → Bool
is_bytes ws = is_whole (number_in ws >>= λ n. after_by (is_digest 32) n.1)

-- `ok` stands alone, or before the number of bytes read and their SHA-256
abbrev pub is_read_reply : Words → Bool
is_read_reply [] = true
is_read_reply (w ∷ ws) = is_bytes (w ∷ ws)

abbrev pub errors : Words
errors =
    codes "EBADF" ∷ codes "ENOENT" ∷ codes "ETXTBSY" ∷ codes "EFBIG" ∷ codes "E2BIG"
    ∷ codes "EINVAL" ∷ codes "ENODATA" ∷ []

abbrev pub is_error : List ℕ → Bool
is_error w = is_among errors w

abbrev pub is_permission : List ℕ → Bool
is_permission w = is_among (codes "evm-attribute" ∷ codes "admin" ∷ []) w || is_set_status w

abbrev pub refused_by : Words → Option Words → Bool
refused_by ws None = only_by is_error ws
refused_by ws (Some rest) = only_by is_cause rest

abbrev pub is_other_refusal : Words → Bool
is_other_refusal ws = refused_by ws (after (codes "EACCES") ws)

abbrev pub forbidden_by : Words → Option Words → Bool
forbidden_by ws None = is_other_refusal ws
forbidden_by ws (Some rest) = only_by is_permission rest

-- a reply that isn't `ok`
abbrev pub is_refusal : Words → Bool
is_refusal ws = forbidden_by ws (after (codes "EPERM") ws)

abbrev pub ok_by : Words → Option Words → Option Bool
ok_by ws None = if is_refusal ws then Some false else None
ok_by ws (Some rest) = if is_read_reply rest then Some true else None

-- a reply: whether it is `ok`
abbrev pub reply_by : Words → Option Bool
reply_by ws = ok_by ws (after (codes "ok") ws)

-- `CALL REPLY`: the number of the call, and whether the reply is `ok`
unfoldable pub reply_of : Words → Option (ℕ × Bool)
reply_of ws = number_in ws >>= λ n. reply_by n.1 >>= λ ok. Some (n.0, ok)

-- `end`
abbrev pub is_end : Words → Bool
is_end ws = is_whole (after (codes "end") ws)
