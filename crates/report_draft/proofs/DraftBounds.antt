-- What a draft has stays bounded with each line: it reads as many reports as are wanted, and a line
-- adds at most one event.
use Rattle.std.proofs.Common.{◌≡◌, ℕ, ◌+◌, ◌-◌, ◌≤◌, ◌==◌, Bool, true, false, cond, List, [], ◌∷◌, ◌++◌, length, length-append, Option, Some, None, refl, sym, ap, subst, arith}
use Rattle.std.specs.Prelude.{All, IfSome, codes, slice_index_or}
use Rattle.std.proofs.lemmas.List.Elements.{All-nil, All-push}
use borrow.Author.Tests.{eqb-false, eqb-true}
use Rattle.report_lines.specs.forms.Options.{◌>>=◌}
use Rattle.report_draft.specs.declared.draft.Stage.{Stage}
use Rattle.report_draft.specs.declared.draft.Stage.TheVariants as stage
use Rattle.report_words.specs.declared.event.Event.{Event}
use Rattle.report_words.specs.declared.event.Span.{Span}
use Rattle.report_draft.specs.Draft as draft
use Rattle.report_draft.specs.Draft.{Draft, with_words}
use Rattle.report_words.specs.Forms.{Words, counted}
use Rattle.report_lines.specs.Lines.{event_of, inode_of, is_attr, is_end, is_entry, is_force, is_version, list_of, register_of, reply_of, rule_of, run_of, task_of}
use Rattle.report_lines.specs.Report.{InodeValue, ReportValue}

-- ---- bounds

abbrev pub IsShort : ℕ → InodeValue → Type 0
IsShort m i = length i.events ≤ m

abbrev pub HasShort : ℕ → ReportValue → Type 0
HasShort m r = All (IsShort m) r.inodes

-- how many reports aren't finished yet
abbrev pub left_of : Stage → ℕ → ℕ
left_of stage.Over more = 0
left_of _ more = more + 1

-- no journal has more than m events, and all reports are as many as `total`
pub record WithinBounds (m total : ℕ) (done : List ReportValue) (inodes : List InodeValue)
    (events : List Event) (left : ℕ) : Type 0 where
  pub reports : All (HasShort m) done
  pub journals : All (IsShort m) inodes
  pub journal : length events ≤ m
  pub count : length done + left ≡ total

abbrev pub Bounded : ℕ → ℕ → Draft → Type 0
Bounded m total d = WithinBounds m total d.done d.inodes d.events (left_of d.stage d.more)

-- the same, of a draft whose stage isn't the last
abbrev Open : ℕ → ℕ → Draft → Type 0
Open m total d = WithinBounds m total d.done d.inodes d.events (d.more + 1)

-- ---- steps that may fail

if_some : {X : Type 0} (P : X → Type 0) (c : Bool) (x : X) → P x → IfSome (cond c (Some x) None) P
if_some P true x p = p
if_some P false x p = tt

bind : {A X : Type 0} (P : X → Type 0) (o : Option A) (f : A → Option X)
    → ((a : A) → IfSome (f a) P) → IfSome (o >>= f) P
bind P None f h = tt
bind P (Some a) f h = h a

choice : {X : Type 0} (P : X → Type 0) (c : Bool) (a b : Option X) → IfSome a P → IfSome b P
    → IfSome (cond c a b) P
choice P true a b p q = p
choice P false a b p q = q

either : (P : Draft → Type 0) (c : Bool) (a b : Draft) → P a → P b → P (cond c a b)
either P true a b p q = p
either P false a b p q = q

-- ---- stages

left_if : (c : Bool) (a b : Stage) (more : ℕ) → left_of a more ≡ more + 1
    → left_of b more ≡ more + 1 → left_of (cond c a b) more ≡ more + 1
left_if true a b more p q = p
left_if false a b more p q = q

next_by : (more : ℕ) (none : Bool) → (more == 0) ≡ none
    → left_of (cond none stage.Over stage.Version) (more - 1) ≡ more
next_by more true is = omega (arith, eqb-true more 0 is)
next_by more false is =
    let some : more ≡ 0 → ⊥ = eqb-false more 0 is in omega (arith, some)

-- how many reports are left after one that is finished
left_next : (more : ℕ) → left_of (draft.next_stage more) (more - 1) ≡ more
left_next more = next_by more (more == 0) refl

-- ---- one more line

-- a bound may be greater
greater : (m n total : ℕ) (done : List ReportValue) (inodes : List InodeValue)
    (events : List Event) (left : ℕ) → m ≤ n → WithinBounds m total done inodes events left
    → WithinBounds n total done inodes events left
greater m n total done inodes events left le k = record {
  reports = λ i r small j inode here.
      let short : length (slice_index_or (slice_index_or done i r).inodes j inode).events ≤ m =
      k.reports i r small j inode here in
      omega (arith, short, le);
  journals = λ j inode here.
      let short : length (slice_index_or inodes j inode).events ≤ m = k.journals j inode here in
      omega (arith, short, le);
  journal = omega (arith, le, k.journal);
  count = k.count;
}

grown : (m total : ℕ) (d : Draft) → Open m total d → Open (m + 1) total d
grown m total d k =
    greater m (m + 1) total d.done d.inodes d.events (d.more + 1) (omega arith) k

-- the stage changes, but isn't the last
staged : (n total : ℕ) (d : Draft) (s : Stage) → left_of s d.more ≡ d.more + 1 → Open n total d
    → WithinBounds n total d.done d.inodes d.events (left_of s d.more)
staged n total d s same on =
    subst (λ (left : ℕ). WithinBounds n total d.done d.inodes d.events left) (sym same) on

version : (n total : ℕ) (d : Draft) (ws : Words) → Open n total d
    → IfSome (draft.with_version ws d) (Bounded n total)
version n total d ws on =
    if_some (Bounded n total) (is_version ws) (record d { stage = stage.Run }) on

run : (n total : ℕ) (d : Draft) (ws : Words) → Open n total d
    → IfSome (draft.with_run ws d) (Bounded n total)
run n total d ws on =
    bind (Bounded n total) (run_of ws) (λ r. Some (record d { stage = stage.List; run = r }))
    (λ r. on)

entries_on : (left more : ℕ) → left_of (draft.entries_left left) more ≡ more + 1
entries_on left more =
    left_if (left == 0) (stage.Registers None) (stage.Entries left) more refl refl

list : (n total : ℕ) (d : Draft) (ws : Words) → Open n total d
    → IfSome (draft.with_list ws d) (Bounded n total)
list n total d ws on =
    bind (Bounded n total) (list_of ws)
    (λ p. Some (record d { stage = draft.entries_left p.0; violations = p.1 }))
    (λ p. staged n total d (draft.entries_left p.0) (entries_on p.0 d.more) on)

entry : (n total : ℕ) (d : Draft) (left : ℕ) (line : Span) (ws : Words) → Open n total d
    → IfSome (draft.with_entry left line ws d) (Bounded n total)
entry n total d left line ws on =
    if_some (Bounded n total) (is_entry ws)
    (record d { stage = draft.entries_left (left - 1); entries = d.entries ++ line ∷ [] })
    (staged n total d (draft.entries_left (left - 1)) (entries_on (left - 1) d.more) on)

sha1 : (n total : ℕ) (d : Draft) (before : Option ℕ) (line : Span) (ws : Words) → Open n total d
    → IfSome (draft.with_sha1 before line ws d) (Bounded n total)
sha1 n total d before line ws on =
    bind (Bounded n total) (register_of (codes "sha1") 20 ws)
    (λ p. draft.sum_at before line p d)
    (λ p. if_some (Bounded n total) (draft.rises before p)
    (record d { stage = stage.Second p; registers = d.registers ++ line ∷ [] }) on)

sha256 : (n total : ℕ) (d : Draft) (pcr : ℕ) (line : Span) (ws : Words) → Open n total d
    → IfSome (draft.with_sha256 pcr line ws d) (Bounded n total)
sha256 n total d pcr line ws on =
    bind (Bounded n total) (register_of (codes "sha256") 32 ws)
    (λ p. draft.second_at pcr line p d)
    (λ p. if_some (Bounded n total) (p == pcr)
    (record d { stage = stage.Registers (Some pcr); registers = d.registers ++ line ∷ [] }) on)

rules_on : (left : ℕ) (before : Option ℕ) (more : ℕ)
    → left_of (draft.rules_left left before) more ≡ more + 1
rules_on left before more =
    left_if (left == 0) stage.Inodes (stage.Rules left before) more refl refl

appended : (n total : ℕ) (d : Draft) (ws : Words) → Open n total d
    → IfSome (draft.with_appended ws d) (Bounded n total)
appended n total d ws on =
    bind (Bounded n total) (counted (codes "appended") ws)
    (λ k. Some (record d { stage = draft.rules_left k None }))
    (λ k. staged n total d (draft.rules_left k None) (rules_on k None d.more) on)

rule : (n total : ℕ) (d : Draft) (left : ℕ) (before : Option ℕ) (line : Span) (ws : Words)
    → Open n total d → IfSome (draft.with_rule left before line ws d) (Bounded n total)
rule n total d left before line ws on =
    bind (Bounded n total) (rule_of ws) (λ place. draft.rule_at left before line place d)
    (λ place. if_some (Bounded n total) (draft.follows before place)
    (record d {
      stage = draft.rules_left (left - 1) (Some place);
      rules = d.rules ++ line ∷ [];
    })
    (staged n total d (draft.rules_left (left - 1) (Some place))
    (rules_on (left - 1) (Some place) d.more) on))

inode : (n total : ℕ) (d : Draft) (line : Span) (ws : Words) → Open n total d
    → IfSome (draft.with_inode line ws d) (Bounded n total)
inode n total d line ws on =
    bind (Bounded n total) (inode_of line ws) (λ i. draft.inode_at i.0 i.1 d)
    (λ i. if_some (Bounded n total) (i.0 == length d.inodes)
    (record d { stage = stage.Force; head = i.1 }) on)

force : (n total : ℕ) (d : Draft) (line : Span) (ws : Words) → Open n total d
    → IfSome (draft.with_force line ws d) (Bounded n total)
force n total d line ws on =
    if_some (Bounded n total) (is_force ws)
    (record d { stage = stage.Attrs; head = record d.head { force = line } }) on

names_on : (left more : ℕ) → left_of (draft.names_left left) more ≡ more + 1
names_on left more = left_if (left == 0) stage.Journal (stage.Names left) more refl refl

attrs : (n total : ℕ) (d : Draft) (ws : Words) → Open n total d
    → IfSome (draft.with_attrs ws d) (Bounded n total)
attrs n total d ws on =
    bind (Bounded n total) (counted (codes "attrs") ws)
    (λ k. Some (record d { stage = draft.names_left k }))
    (λ k. staged n total d (draft.names_left k) (names_on k d.more) on)

name : (n total : ℕ) (d : Draft) (left : ℕ) (line : Span) (ws : Words) → Open n total d
    → IfSome (draft.with_name left line ws d) (Bounded n total)
name n total d left line ws on =
    if_some (Bounded n total) (is_attr ws)
    (record d { stage = draft.names_left (left - 1); attrs = d.attrs ++ line ∷ [] })
    (staged n total d (draft.names_left (left - 1)) (names_on (left - 1) d.more) on)

-- ---- the events

closed : (n total : ℕ) (d : Draft) → Open n total d → Bounded n total (draft.inode_closed d)
closed n total d on = record {
  reports = on.reports;
  journals = All-push (IsShort n) d.inodes (draft.inode_read d) on.journals on.journal;
  journal = omega arith;
  count = on.count;
}

events_on : (n total : ℕ) (d : Draft) (left : ℕ) → Open n total d
    → Bounded n total (draft.events_left left d)
events_on n total d left on =
    either (Bounded n total) (left == 0) (draft.inode_closed d)
    (record d { stage = stage.Events left }) (closed n total d on) on

journal : (n total : ℕ) (d : Draft) (ws : Words) → Open n total d
    → IfSome (draft.with_journal ws d) (Bounded n total)
journal n total d ws on =
    bind (Bounded n total) (counted (codes "events") ws) (λ k. Some (draft.events_left k d))
    (λ k. events_on n total d k on)

-- a draft with one more event
with_one : (n total : ℕ) (d : Draft) (e : Event) → length d.events + 1 ≤ n → Open n total d
    → Open n total (record d { events = d.events ++ e ∷ [] })
with_one n total d e room on = record {
  reports = on.reports;
  journals = on.journals;
  journal = omega (arith, length-append d.events (e ∷ []), room);
  count = on.count;
}

event : (n total : ℕ) (d : Draft) (left : ℕ) (line : Span) (ws : Words)
    → length d.events + 1 ≤ n → Open n total d
    → IfSome (draft.with_event left line ws d) (Bounded n total)
event n total d left line ws room on =
    bind (Bounded n total) (event_of (length d.events) line ws) (λ e. draft.event_at left e d)
    (λ e. if_some (Bounded n total) (draft.fits (length d.entries) d.events e)
    (draft.event_taken left e d)
    (events_on n total (record d { events = d.events ++ e ∷ [] }) (left - 1)
    (with_one n total d e room on)))

-- ---- the tasks and the end

task : (n total : ℕ) (d : Draft) (ws : Words) → Open n total d
    → IfSome (draft.with_task ws d) (Bounded n total)
task n total d ws on =
    bind (Bounded n total) (task_of ws) (λ t. draft.task_at t.0 t.1 d)
    (λ t. if_some (Bounded n total) (t.0 == length d.tasks)
    (record d { stage = stage.Replies t.1 }) on)

reply : (n total : ℕ) (d : Draft) (line : Span) (ws : Words) → Bounded n total d
    → IfSome (draft.with_reply line ws d) (Bounded n total)
reply n total d line ws on =
    bind (Bounded n total) (reply_of ws)
    (λ r. draft.reply_at r.0 (record { line = line; ok = r.1 }) d)
    (λ r. if_some (Bounded n total) (r.0 == length d.replies)
    (record d { replies = d.replies ++ record { line = line; ok = r.1 } ∷ [] }) on)

finished : (n total : ℕ) (d : Draft) → Open n total d → Bounded n total (draft.report_closed d)
finished n total d on = record {
  reports = All-push (HasShort n) d.done (draft.report_of d) on.reports on.journals;
  journals = All-nil (IsShort n);
  journal = on.journal;
  count = omega (
    arith,
    length-append d.done (draft.report_of d ∷ []),
    left_next d.more,
    on.count,
  );
}

end : (n total : ℕ) (d : Draft) (ws : Words) → Open n total d
    → IfSome (draft.with_end ws d) (Bounded n total)
end n total d ws on =
    if_some (Bounded n total) (is_end ws) (draft.report_closed d) (finished n total d on)

last : (n total : ℕ) (d : Draft) (ws : Words) → Open n total d
    → IfSome (draft.with_last ws d) (Bounded n total)
last n total d ws on =
    choice (Bounded n total) (draft.begins (codes "task") ws) (draft.with_task ws d)
    (draft.with_end ws d) (task n total d ws on) (end n total d ws on)

block : (n total : ℕ) (d : Draft) (line : Span) (ws : Words) → Open n total d
    → IfSome (draft.with_block line ws d) (Bounded n total)
block n total d line ws on =
    choice (Bounded n total) (draft.begins (codes "inode") ws) (draft.with_inode line ws d)
    (draft.with_last ws d) (inode n total d line ws on) (last n total d ws on)

after_list : (n total : ℕ) (d : Draft) (line : Span) (ws : Words) → Open n total d
    → IfSome (cond (draft.begins (codes "appended") ws) (draft.with_appended ws d)
    (draft.with_block line ws d)) (Bounded n total)
after_list n total d line ws on =
    choice (Bounded n total) (draft.begins (codes "appended") ws) (draft.with_appended ws d)
    (draft.with_block line ws d) (appended n total d ws on) (block n total d line ws on)

registers : (n total : ℕ) (d : Draft) (before : Option ℕ) (line : Span) (ws : Words)
    → Open n total d → IfSome (draft.with_registers before line ws d) (Bounded n total)
registers n total d before line ws on =
    choice (Bounded n total) (draft.begins (codes "pcr") ws) (draft.with_sha1 before line ws d)
    (cond (draft.begins (codes "appended") ws) (draft.with_appended ws d)
    (draft.with_block line ws d)) (sha1 n total d before line ws on)
    (after_list n total d line ws on)

-- a draft whose stage is that of replies
replies : (n total : ℕ) (d : Draft) (done : Bool) (line : Span) (ws : Words)
    → d.stage ≡ stage.Replies done → Open n total d
    → IfSome (draft.with_replies done line ws d) (Bounded n total)
replies n total d done line ws is on =
    choice (Bounded n total) (draft.begins_with_number ws) (draft.with_reply line ws d)
    (draft.with_last ws (draft.task_closed done d))
    (reply n total d line ws
    (staged n total d d.stage (ap (λ (s : Stage). left_of s d.more) is) on))
    (last n total (draft.task_closed done d) ws on)

-- ---- a line

-- what is bounded before a line is bounded by one more event after it
pub one_more : (m total : ℕ) (s : Stage) (line : Span) (ws : Words) (d : Draft) → d.stage ≡ s
    → WithinBounds m total d.done d.inodes d.events (left_of s d.more)
    → IfSome (with_words s line ws d) (Bounded (m + 1) total)
unfolding with_words
one_more m total stage.Version line ws d is k =
    version (m + 1) total d ws (grown m total d k)
one_more m total stage.Run line ws d is k = run (m + 1) total d ws (grown m total d k)
one_more m total stage.List line ws d is k = list (m + 1) total d ws (grown m total d k)
one_more m total (stage.Entries left) line ws d is k =
    entry (m + 1) total d left line ws (grown m total d k)
one_more m total (stage.Registers before) line ws d is k =
    registers (m + 1) total d before line ws (grown m total d k)
one_more m total (stage.Second pcr) line ws d is k =
    sha256 (m + 1) total d pcr line ws (grown m total d k)
one_more m total (stage.Rules left before) line ws d is k =
    rule (m + 1) total d left before line ws (grown m total d k)
one_more m total stage.Inodes line ws d is k =
    block (m + 1) total d line ws (grown m total d k)
one_more m total stage.Force line ws d is k =
    force (m + 1) total d line ws (grown m total d k)
one_more m total stage.Attrs line ws d is k = attrs (m + 1) total d ws (grown m total d k)
one_more m total (stage.Names left) line ws d is k =
    name (m + 1) total d left line ws (grown m total d k)
one_more m total stage.Journal line ws d is k =
    journal (m + 1) total d ws (grown m total d k)
one_more m total (stage.Events left) line ws d is k =
    event (m + 1) total d left line ws (omega (arith, k.journal)) (grown m total d k)
one_more m total (stage.Replies done) line ws d is k =
    replies (m + 1) total d done line ws is (grown m total d k)
one_more m total stage.Over line ws d is k = tt
