-- The ranges that are read of lines have the texts of those lines.
use Rattle.std.proofs.Common.{◌≡◌, ℕ, ◌+◌, Bool, List, [], ◌∷◌, ◌++◌, length, map, take, drop, refl, sym, ap, ◌∙◌, append_assoc, arith, length-append}
use Rattle.std.proofs.Math.Seq.{drop-append_seam, take-append_seam}
use Rattle.std.proofs.lemmas.List.{append-nil}
use Rattle.std.specs.List.{join_with_byte}
use Rattle.report_text.specs.Report.{all_task_lines, entry_words, reply_lines, task_lines}
use Rattle.report_text.specs.Texts.{line_text}
use Rattle.report_text.specs.Words.{Line}
use Rattle.report_text.specs.model.EndedValue.{EndedTaskValue as EndedTask}
use Rattle.report_text.specs.model.events.EndedInode.{EndedInodeValue as EndedInode}
use Rattle.report_text.specs.model.events.declared.told.Event.{Event as ModelEvent}
use Rattle.report_text.specs.model.events.forms.Words.{text_of}
use Rattle.report_text.specs.model.events.meta.declared.measurement.Template.{Template}
use Rattle.report_text.specs.model.events.templates.declared.entry.Entry.{Entry}
use Rattle.report_text.specs.model.steps.declared.reply.Reply as model
use Rattle.report_words.specs.declared.event.Event.{Event}
use Rattle.report_words.specs.declared.event.Span.{Span}
use Rattle.report_lines.specs.declared.report.Reply.{Reply}
use Rattle.report_read.specs.ReadBack.{text_at}
use Rattle.report_lines.specs.Report.{InodeValue, TaskValue}
use Rattle.report_read.specs.Short.{short, without_line}
use Rattle.report_read.proofs.Chains.{values}
use Rattle.report_read.proofs.Fold.{end_of, line_span, next, spans}
use Rattle.report_read.proofs.InodesBack.{events_at, inode_block, inode_value}
use Rattle.report_read.proofs.JournalBack.{event_block, event_value}
use Rattle.report_read.proofs.ListBack.{entry_block, entry_span}
use Rattle.report_read.proofs.TasksBack.{reply_block, reply_value, task_line, task_value, task_values}

-- ---- one line

text_here : (front ws rest : List ℕ)
    → take (length ws) (drop (length front) (front ++ (ws ++ rest))) ≡ ws
text_here front ws rest =
    ap (λ (xs : List ℕ). take (length ws) xs) (drop-append_seam front (ws ++ rest))
    ∙ take-append_seam ws rest

line_here : (front back : List ℕ) (ws : Line)
    → text_at (front ++ (line_text ws ++ back)) (line_span (length front) ws)
    ≡ join_with_byte 32 ws
line_here front back ws =
    ap
    (λ (xs : List ℕ). take (length (join_with_byte 32 ws)) (drop (length front) (front ++ xs)))
    (append_assoc (join_with_byte 32 ws) (10 ∷ []) back)
    ∙ text_here front (join_with_byte 32 ws) (10 ∷ back)

next_here : (front : List ℕ) (ws : Line) → next (length front) ws ≡ length (front ++ line_text ws)
next_here front ws =
    omega (
      arith,
      length-append front (line_text ws),
      length-append (join_with_byte 32 ws) (10 ∷ []),
    )

-- ---- lines

pub end_here : (ls : List Line) (front : List ℕ)
    → end_of (length front) ls ≡ length (front ++ text_of ls)
end_here [] front = ap length (sym (append-nil front))
end_here (ws ∷ ls) front =
    ap (λ (n : ℕ). end_of n ls) (next_here front ws)
    ∙ (end_here ls (front ++ line_text ws)
    ∙ ap length (append_assoc front (line_text ws) (text_of ls)))

pub texts_here : (ls : List Line) (front back : List ℕ)
    → map (text_at (front ++ (text_of ls ++ back))) (spans (length front) ls)
    ≡ map (join_with_byte 32) ls
texts_here [] front back = refl
texts_here (ws ∷ ls) front back =
    let whole : List ℕ = front ++ (text_of (ws ∷ ls) ++ back) in
    let parts : whole ≡ front ++ (line_text ws ++ (text_of ls ++ back))
    = ap (λ (xs : List ℕ). front ++ xs) (append_assoc (line_text ws) (text_of ls) back) in
    let moved : whole ≡ (front ++ line_text ws) ++ (text_of ls ++ back)
    = parts ∙ sym (append_assoc front (line_text ws) (text_of ls ++ back)) in
    let one : text_at whole (line_span (length front) ws) ≡ join_with_byte 32 ws
    = ap (λ (t : List ℕ). text_at t (line_span (length front) ws)) parts
    ∙ line_here front (text_of ls ++ back) ws in
    let others : map (text_at whole) (spans (next (length front) ws) ls)
    ≡ map (join_with_byte 32) ls
    = ap (λ (n : ℕ). map (text_at whole) (spans n ls)) (next_here front ws)
    ∙ (ap (λ (t : List ℕ). map (text_at t) (spans (length (front ++ line_text ws)) ls)) moved
    ∙ texts_here ls (front ++ line_text ws) back) in
    cc (one, others)

-- ---- the list

entry_spans : (es : List Entry) (begin n : ℕ)
    → values entry_block entry_span begin n es ≡ spans begin (map entry_words es)
entry_spans [] begin n = refl
entry_spans (e ∷ es) begin n =
    ap (λ (ss : List Span). line_span begin (entry_words e) ∷ ss)
    (entry_spans es (next begin (entry_words e)) (n + 1))

joined_entries : (es : List Entry)
    → map (join_with_byte 32) (map entry_words es)
    ≡ map (λ x. join_with_byte 32 (entry_words x)) es
joined_entries [] = refl
joined_entries (e ∷ es) =
    ap (λ (ts : List (List ℕ)). join_with_byte 32 (entry_words e) ∷ ts) (joined_entries es)

pub entries_here : (es : List Entry) (front back : List ℕ)
    → map (text_at (front ++ (text_of (map entry_words es) ++ back)))
    (values entry_block entry_span (length front) 0 es)
    ≡ map (λ x. join_with_byte 32 (entry_words x)) es
entries_here es front back =
    ap (λ (ss : List Span). map (text_at (front ++ (text_of (map entry_words es) ++ back))) ss)
    (entry_spans es (length front) 0)
    ∙ (texts_here (map entry_words es) front back ∙ joined_entries es)

-- ---- the replies

reply_spans : (text : List ℕ) (rs : List model.Reply) (begin n : ℕ)
    → map (λ (y : Reply). text_at text y.line) (values reply_block reply_value begin n rs)
    ≡ map (text_at text) (spans begin (reply_lines n rs))
reply_spans text [] begin n = refl
reply_spans text (r ∷ rs) begin n =
    ap (λ (ts : List (List ℕ)). text_at text (reply_value n r begin).line ∷ ts)
    (reply_spans text rs (end_of begin (reply_block n r)) (n + 1))

abbrev pub texts_of : List ℕ → TaskValue → List (List ℕ)
texts_of text t = map (λ (y : Reply). text_at text y.line) t.replies

abbrev pub words_of : EndedTask → List (List ℕ)
words_of t = map (join_with_byte 32) (reply_lines 0 t.replies)

task_here : (t : EndedTask) (n : ℕ) (front back : List ℕ)
    → texts_of (front ++ (text_of (task_lines n t) ++ back)) (task_value n t (length front))
    ≡ words_of t
task_here t n front back =
    let first : Line = task_line n t.done in
    let whole : List ℕ = front ++ (text_of (task_lines n t) ++ back) in
    let moved : whole
    ≡ (front ++ line_text first) ++ (text_of (reply_lines 0 t.replies) ++ back)
    = ap (λ (xs : List ℕ). front ++ xs)
    (append_assoc (line_text first) (text_of (reply_lines 0 t.replies)) back)
    ∙ sym (append_assoc front (line_text first) (text_of (reply_lines 0 t.replies) ++ back)) in
    reply_spans whole t.replies (next (length front) first) 0
    ∙ (ap (λ (k : ℕ). map (text_at whole) (spans k (reply_lines 0 t.replies)))
    (next_here front first)
    ∙ (ap
    (λ (x : List ℕ). map (text_at x)
    (spans (length (front ++ line_text first)) (reply_lines 0 t.replies))) moved
    ∙ texts_here (reply_lines 0 t.replies) (front ++ line_text first) back))

pub text_of-append : (xs ys : List Line) → text_of (xs ++ ys) ≡ text_of xs ++ text_of ys
text_of-append [] ys = refl
text_of-append (ws ∷ xs) ys =
    ap (λ (t : List ℕ). line_text ws ++ t) (text_of-append xs ys)
    ∙ sym (append_assoc (line_text ws) (text_of xs) (text_of ys))

pub tasks_here : (ts : List EndedTask) (n : ℕ) (front back : List ℕ)
    → map (texts_of (front ++ (text_of (all_task_lines n ts) ++ back)))
    (task_values (length front) n ts)
    ≡ map words_of ts
tasks_here [] n front back = refl
tasks_here (t ∷ ts) n front back =
    let here : List ℕ = text_of (task_lines n t) in
    let others : List ℕ = text_of (all_task_lines (n + 1) ts) in
    let whole : List ℕ = front ++ (text_of (all_task_lines n (t ∷ ts)) ++ back) in
    let parts : whole ≡ front ++ (here ++ (others ++ back))
    = ap (λ (xs : List ℕ). front ++ (xs ++ back))
    (text_of-append (task_lines n t) (all_task_lines (n + 1) ts))
    ∙ ap (λ (xs : List ℕ). front ++ xs) (append_assoc here others back) in
    let moved : whole ≡ (front ++ here) ++ (others ++ back)
    = parts ∙ sym (append_assoc front here (others ++ back)) in
    let one : texts_of whole (task_value n t (length front)) ≡ words_of t
    = ap (λ (x : List ℕ). texts_of x (task_value n t (length front))) parts
    ∙ task_here t n front (others ++ back) in
    let more : map (texts_of whole)
    (task_values (end_of (length front) (task_lines n t)) (n + 1) ts)
    ≡ map words_of ts
    = ap (λ (k : ℕ). map (texts_of whole) (task_values k (n + 1) ts))
    (end_here (task_lines n t) front)
    ∙ (ap (λ (x : List ℕ). map (texts_of x) (task_values (length (front ++ here)) (n + 1) ts)) moved
    ∙ tasks_here ts (n + 1) (front ++ here) back) in
    cc (one, more)

pub tasks_done : (ts : List EndedTask) (begin n : ℕ)
    → map (λ (t : TaskValue). t.done) (task_values begin n ts) ≡ map (λ (t : EndedTask). t.done) ts
tasks_done [] begin n = refl
tasks_done (t ∷ ts) begin n = cc (tasks_done ts (end_of begin (task_lines n t)) (n + 1))

-- ---- the journals

events_short : (t : Template) (g : Bool) (at : ℕ) (es : List ModelEvent) (begin n : ℕ)
    → map without_line (values (event_block t g at) (event_value t g at) begin n es) ≡ map short es
events_short t g at [] begin n = refl
events_short t g at (e ∷ es) begin n =
    ap (λ (xs : List Event). short e ∷ xs)
    (events_short t g at es (end_of begin (event_block t g at n e)) (n + 1))

module _ (t : Template) (g : Bool) (at : ℕ) where
  abbrev pub read_from : ℕ → ℕ → List EndedInode → List InodeValue
  read_from begin n is = values (inode_block t g at) (inode_value t g) begin n is

  pub inodes_events : (is : List EndedInode) (begin n : ℕ)
      → map (λ (i : InodeValue). map without_line i.events) (read_from begin n is)
      ≡ map (λ (i : EndedInode). map short i.journal) is
  inodes_events [] begin n = refl
  inodes_events (i ∷ is) begin n =
      cc (
        events_short t g (events_at begin n i) i.journal (events_at begin n i) 0,
        inodes_events is (end_of begin (inode_block t g at n i)) (n + 1),
      )

  pub inodes_writers : (is : List EndedInode) (begin n : ℕ)
      → map (λ (i : InodeValue). i.head.writers) (read_from begin n is)
      ≡ map (λ (i : EndedInode). i.writers) is
  inodes_writers [] begin n = refl
  inodes_writers (i ∷ is) begin n =
      ap (λ (xs : List ℕ). i.writers ∷ xs)
      (inodes_writers is (end_of begin (inode_block t g at n i)) (n + 1))

  pub inodes_readers : (is : List EndedInode) (begin n : ℕ)
      → map (λ (i : InodeValue). i.head.readers) (read_from begin n is)
      ≡ map (λ (i : EndedInode). i.readers) is
  inodes_readers [] begin n = refl
  inodes_readers (i ∷ is) begin n =
      ap (λ (xs : List ℕ). i.readers ∷ xs)
      (inodes_readers is (end_of begin (inode_block t g at n i)) (n + 1))

  pub inodes_execs : (is : List EndedInode) (begin n : ℕ)
      → map (λ (i : InodeValue). i.head.execs) (read_from begin n is)
      ≡ map (λ (i : EndedInode). i.execs) is
  inodes_execs [] begin n = refl
  inodes_execs (i ∷ is) begin n =
      ap (λ (xs : List ℕ). i.execs ∷ xs)
      (inodes_execs is (end_of begin (inode_block t g at n i)) (n + 1))
