-- Reports while their lines are read: which line may follow which, and what it adds.
use Rattle.std.specs.Prelude.{ℕ, ◌+◌, ◌-◌, ◌==◌, Bool, true, false, ◌&&◌, nat_lt, List, [], ◌∷◌, ◌++◌, length, codes, slice_get, Option, Some, None, is_some, if◌then◌else◌}
use Rattle.report_lines.specs.forms.Options.{◌>>=◌}
use Rattle.report_draft.specs.declared.draft.Stage.{Stage}
use Rattle.report_draft.specs.declared.draft.Stage.TheVariants as stage
use Rattle.report_words.specs.declared.event.Deed.{Deed}
use Rattle.report_words.specs.declared.event.Deed.TheVariants as deed
use Rattle.report_words.specs.declared.event.Event.{Event}
use Rattle.report_words.specs.declared.event.Outcome.{Outcome}
use Rattle.report_words.specs.declared.event.Outcome.TheVariants as outcome
use Rattle.report_words.specs.declared.event.Placed.{Placed}
use Rattle.report_words.specs.declared.event.Placed.TheVariants as placed
use Rattle.report_words.specs.declared.event.Span.{Span}
use Rattle.report_lines.specs.declared.report.InodeHead.{InodeHead}
use Rattle.report_lines.specs.declared.report.Reply.{Reply}
use Rattle.report_lines.specs.declared.report.RunEnd.{RunEnd}
use Rattle.report_lines.specs.declared.report.RunEnd.TheVariants as run
use Rattle.report_words.specs.Forms.{Words, after, counted, number_in}
use Rattle.report_lines.specs.Lines.{event_of, inode_of, is_attr, is_end, is_entry, is_force, is_version, list_of, register_of, reply_of, rule_of, run_of, task_of}
use Rattle.report_lines.specs.Report.{InodeValue, ReportValue, TaskValue}

pub record Draft : Type 0 where
  -- what the next line may be
  pub stage : Stage
  -- the parts of the report that is being read
  pub run : RunEnd
  pub violations : ℕ
  pub entries : List Span
  pub registers : List Span
  pub rules : List Span
  pub inodes : List InodeValue
  pub tasks : List TaskValue
  -- the inode and the replies that are being read
  pub head : InodeHead
  pub attrs : List Span
  pub events : List Event
  pub replies : List Reply
  -- the reports before, and how many are wanted after
  pub done : List ReportValue
  pub more : ℕ

abbrev pub no_span : Span
no_span = record { at = 0; len = 0 }

abbrev pub no_head : InodeHead
no_head = record { line = no_span; force = no_span; writers = 0; readers = 0; execs = 0 }

-- before the first line of the first report
abbrev pub start : ℕ → Draft
start more = record {
  stage = stage.Version;
  run = run.Done;
  violations = 0;
  entries = [];
  registers = [];
  rules = [];
  inodes = [];
  tasks = [];
  head = no_head;
  attrs = [];
  events = [];
  replies = [];
  done = [];
  more = more;
}

-- ---- counts that run down

abbrev pub entries_left : ℕ → Stage
entries_left n = if n == 0 then stage.Registers None else stage.Entries n

abbrev pub rules_left : ℕ → Option ℕ → Stage
rules_left n last = if n == 0 then stage.Inodes else stage.Rules n last

abbrev pub names_left : ℕ → Stage
names_left n = if n == 0 then stage.Journal else stage.Names n

abbrev pub inode_read : Draft → InodeValue
inode_read d = record { head = d.head; attrs = d.attrs; events = d.events }

-- the inode's parts are taken out of the draft
abbrev pub without_inode : Draft → Draft
without_inode d = record d { attrs = []; events = [] }

abbrev pub inode_closed : Draft → Draft
inode_closed d = record d {
  stage = stage.Inodes;
  inodes = d.inodes ++ inode_read d ∷ [];
  attrs = [];
  events = [];
}

-- so many events are left of the inode's journal
abbrev pub events_left : ℕ → Draft → Draft
events_left n d = if n == 0 then inode_closed d else record d { stage = stage.Events n }

-- ---- the head, the list, the registers, the rules

abbrev pub with_version : Words → Draft → Option Draft
with_version ws d = if is_version ws then Some (record d { stage = stage.Run }) else None

abbrev pub with_run : Words → Draft → Option Draft
with_run ws d = run_of ws >>= λ r. Some (record d { stage = stage.List; run = r })

abbrev pub with_list : Words → Draft → Option Draft
with_list ws d = list_of ws >>= λ p. Some (record d {
  stage = entries_left p.0;
  violations = p.1;
})

abbrev pub with_entry : ℕ → Span → Words → Draft → Option Draft
with_entry left line ws d = if is_entry ws then Some (record d {
  stage = entries_left (left - 1);
  entries = d.entries ++ line ∷ [];
}) else None

-- the register comes after the last one, and there are 24
abbrev pub rises : Option ℕ → ℕ → Bool
rises None pcr = nat_lt pcr 24
rises (Some last) pcr = nat_lt last pcr && nat_lt pcr 24

abbrev pub sum_at : Option ℕ → Span → ℕ → Draft → Option Draft
sum_at last line pcr d = if rises last pcr then Some (record d {
  stage = stage.Second pcr;
  registers = d.registers ++ line ∷ [];
}) else None

-- `pcr sha1 P HEX`
abbrev pub with_sha1 : Option ℕ → Span → Words → Draft → Option Draft
with_sha1 last line ws d = register_of (codes "sha1") 20 ws >>= λ p. sum_at last line p d

abbrev pub second_at : ℕ → Span → ℕ → Draft → Option Draft
second_at pcr line p d = if p == pcr then Some (record d {
  stage = stage.Registers (Some pcr);
  registers = d.registers ++ line ∷ [];
}) else None

-- `pcr sha256 P HEX`, after the line of SHA-1 for the same register
abbrev pub with_sha256 : ℕ → Span → Words → Draft → Option Draft
with_sha256 pcr line ws d = register_of (codes "sha256") 32 ws >>= λ p. second_at pcr line p d

-- `appended K`
abbrev pub with_appended : Words → Draft → Option Draft
with_appended ws d = counted (codes "appended") ws >>= λ n.
    Some (record d { stage = rules_left n None })

-- the places of the appended rules count up
abbrev pub follows : Option ℕ → ℕ → Bool
follows None place = true
follows (Some last) place = place == (last + 1)

abbrev pub rule_at : ℕ → Option ℕ → Span → ℕ → Draft → Option Draft
rule_at left last line place d = if follows last place then Some (record d {
  stage = rules_left (left - 1) (Some place);
  rules = d.rules ++ line ∷ [];
}) else None

abbrev pub with_rule : ℕ → Option ℕ → Span → Words → Draft → Option Draft
with_rule left last line ws d = rule_of ws >>= λ place. rule_at left last line place d

-- ---- the inodes

abbrev pub inode_at : ℕ → InodeHead → Draft → Option Draft
inode_at number head d = if number == length d.inodes then Some (record d {
  stage = stage.Force;
  head = head;
}) else None

abbrev pub with_inode : Span → Words → Draft → Option Draft
with_inode line ws d = inode_of line ws >>= λ i. inode_at i.0 i.1 d

abbrev pub with_force : Span → Words → Draft → Option Draft
with_force line ws d = if is_force ws then Some (record d {
  stage = stage.Attrs;
  head = record d.head { force = line };
}) else None

abbrev pub with_attrs : Words → Draft → Option Draft
with_attrs ws d = counted (codes "attrs") ws >>= λ n. Some (record d { stage = names_left n })

abbrev pub with_name : ℕ → Span → Words → Draft → Option Draft
with_name left line ws d = if is_attr ws then Some (record d {
  stage = names_left (left - 1);
  attrs = d.attrs ++ line ∷ [];
}) else None

abbrev pub with_journal : Words → Draft → Option Draft
with_journal ws d = counted (codes "events") ws >>= λ n. Some (events_left n d)

-- ---- the events

-- the file of a deed
abbrev pub file_of : Deed → Option ℕ
file_of (deed.Check file) = Some file
file_of (deed.Take file) = Some file
file_of (deed.Chunk file) = Some file
file_of (deed.Finish file) = Some file
file_of (deed.Read file from len) = Some file
file_of (deed.Write file from len) = Some file
file_of (deed.Trunc file len) = Some file
file_of (deed.Close file) = Some file
file_of (deed.CloseTake file) = Some file
file_of (deed.CloseChunk file) = Some file
file_of (deed.CloseFinish file) = Some file
file_of _ = None

abbrev pub is_held : Outcome → Bool
is_held outcome.Held = true
is_held _ = false

-- the event of this place is a count whose file is held
abbrev pub opens : Option Event → Bool
opens None = false
opens (Some e) = is_held e.outcome

abbrev pub file_fits : List Event → Option ℕ → Bool
file_fits before None = true
file_fits before (Some file) = opens (slice_get before file)

abbrev pub entry_placed : Placed → ℕ → Option ℕ
entry_placed placed.NotMeasured entry = None
entry_placed placed.Added entry = Some entry
entry_placed placed.Already entry = Some entry

-- the entry that an outcome names
abbrev pub entry_of : Outcome → Option ℕ
entry_of (outcome.OpenWriters p) = Some p
entry_of (outcome.ToMToU p) = Some p
entry_of (outcome.Granted g) = entry_placed g.placed g.entry
entry_of _ = None

abbrev pub entry_fits : ℕ → Option ℕ → Bool
entry_fits entries None = true
entry_fits entries (Some p) = nat_lt p entries

-- the file was opened by an earlier event of the journal, and the entry is in the list
abbrev pub fits : ℕ → List Event → Event → Bool
fits entries before e =
    file_fits before (file_of e.deed) && entry_fits entries (entry_of e.outcome)

abbrev pub event_taken : ℕ → Event → Draft → Draft
event_taken left e d = events_left (left - 1) (record d { events = d.events ++ e ∷ [] })

abbrev pub event_at : ℕ → Event → Draft → Option Draft
event_at left e d =
    if fits (length d.entries) d.events e then Some (event_taken left e d) else None

abbrev pub with_event : ℕ → Span → Words → Draft → Option Draft
with_event left line ws d = event_of (length d.events) line ws >>= λ e. event_at left e d

-- ---- the tasks

abbrev pub task_read : Bool → Draft → TaskValue
task_read done d = record { done = done; replies = d.replies }

abbrev pub task_closed : Bool → Draft → Draft
task_closed done d = record d {
  stage = stage.Inodes;
  tasks = d.tasks ++ task_read done d ∷ [];
  replies = [];
}

abbrev pub task_at : ℕ → Bool → Draft → Option Draft
task_at number done d = if number == length d.tasks then Some (record d {
  stage = stage.Replies done;
}) else None

abbrev pub with_task : Words → Draft → Option Draft
with_task ws d = task_of ws >>= λ t. task_at t.0 t.1 d

abbrev pub reply_at : ℕ → Reply → Draft → Option Draft
reply_at call reply d = if call == length d.replies then Some (record d {
  replies = d.replies ++ reply ∷ [];
}) else None

abbrev pub with_reply : Span → Words → Draft → Option Draft
with_reply line ws d = reply_of ws >>= λ r. reply_at r.0 (record { line = line; ok = r.1 }) d

-- ---- the end

abbrev pub report_of : Draft → ReportValue
report_of d = record {
  run = d.run;
  violations = d.violations;
  entries = d.entries;
  registers = d.registers;
  rules = d.rules;
  inodes = d.inodes;
  tasks = d.tasks;
}

-- after the last report that is wanted, no line may come
abbrev pub next_stage : ℕ → Stage
next_stage more = if more == 0 then stage.Over else stage.Version

-- the report's parts are taken out of the draft
abbrev pub emptied : Draft → Draft
emptied d = record d {
  entries = [];
  registers = [];
  rules = [];
  inodes = [];
  tasks = [];
}

abbrev pub report_closed : Draft → Draft
report_closed d = record (emptied d) {
  stage = next_stage d.more;
  done = d.done ++ report_of d ∷ [];
  more = d.more - 1;
}

abbrev pub with_end : Words → Draft → Option Draft
with_end ws d = if is_end ws then Some (report_closed d) else None

-- ---- one more line

abbrev pub begins : List ℕ → Words → Bool
begins word ws = is_some (after word ws)

abbrev pub begins_with_number : Words → Bool
begins_with_number ws = is_some (number_in ws)

-- after the inodes: a task, or the end
abbrev pub with_last : Words → Draft → Option Draft
with_last ws d = if begins (codes "task") ws then with_task ws d else with_end ws d

-- a block of an inode, a task, or the end
abbrev pub with_block : Span → Words → Draft → Option Draft
with_block line ws d = if begins (codes "inode") ws then with_inode line ws d else with_last ws d

-- a register, the appended rules, or a block
abbrev pub with_registers : Option ℕ → Span → Words → Draft → Option Draft
with_registers last line ws d =
    if begins (codes "pcr") ws then with_sha1 last line ws d
    else if begins (codes "appended") ws then with_appended ws d
    else with_block line ws d

-- a reply, or what comes after the task
abbrev pub with_replies : Bool → Span → Words → Draft → Option Draft
with_replies done line ws d =
    if begins_with_number ws then with_reply line ws d else with_last ws (task_closed done d)

-- the draft with one more line, by the stage that it has reached
unfoldable pub with_words : Stage → Span → Words → Draft → Option Draft
with_words stage.Version line ws d = with_version ws d
with_words stage.Run line ws d = with_run ws d
with_words stage.List line ws d = with_list ws d
with_words (stage.Entries left) line ws d = with_entry left line ws d
with_words (stage.Registers last) line ws d = with_registers last line ws d
with_words (stage.Second pcr) line ws d = with_sha256 pcr line ws d
with_words (stage.Rules left last) line ws d = with_rule left last line ws d
with_words stage.Inodes line ws d = with_block line ws d
with_words stage.Force line ws d = with_force line ws d
with_words stage.Attrs line ws d = with_attrs ws d
with_words (stage.Names left) line ws d = with_name left line ws d
with_words stage.Journal line ws d = with_journal ws d
with_words (stage.Events left) line ws d = with_event left line ws d
with_words (stage.Replies done) line ws d = with_replies done line ws d
with_words stage.Over line ws d = None

abbrev pub is_last : Stage → Bool
is_last stage.Over = true
is_last _ = false

-- the reports that are wanted have been read
abbrev pub is_over : Draft → Bool
is_over d = is_last d.stage
