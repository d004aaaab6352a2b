-- The inodes of a report are read.
use Rattle.std.proofs.Common.{◌≡◌, ℕ, suc, ◌+◌, ◌<◌, ◌^◌, Bool, true, List, [], ◌∷◌, ◌++◌, codes, cond, length, map, reverse, take, Option, Some, None, refl, sym, ap, ◌∙◌, subst, arith}
use Rattle.std.specs.List.{AllByRecursion}
use Rattle.std.proofs.lemmas.Bool.{eq-eqb}
use Rattle.hex.specs.Hex.{IsBytes, encode_lower}
use Rattle.report_text.specs.Numerals.{numeral}
use Rattle.report_text.specs.Report.{all_inode_lines, attr_line, force_word, inode_head, inode_lines}
use Rattle.report_text.specs.Words.{Line, event_lines}
use Rattle.report_text.specs.model.events.EndedInode.{EndedInodeValue as EndedInode}
use Rattle.report_text.specs.model.events.Inode.{Inode}
use Rattle.report_text.specs.model.events.Legal.{EachFollows, Legal}
use Rattle.report_text.specs.model.events.NewestFirst.{newest_first}
use Rattle.report_text.specs.model.events.declared.told.Event.{Event as ModelEvent}
use Rattle.report_text.specs.model.events.hashes.Algo.{algo_name, algo_size}
use Rattle.report_text.specs.model.events.hashes.declared.algo.Algo.{Algo}
use Rattle.report_text.specs.model.events.hashes.declared.algo.Algo.TheVariants as algo
use Rattle.report_text.specs.model.events.hashes.declared.digest.Digest.{Digest}
use Rattle.report_text.specs.model.events.meta.declared.measurement.Template.{Template}
use Rattle.report_text.specs.model.events.templates.xattrs.Attrs.{Pair}
use Rattle.report_draft.specs.declared.draft.Stage.{Stage}
use Rattle.report_draft.specs.declared.draft.Stage.TheVariants as stage
use Rattle.report_words.specs.declared.event.Span.{Span}
use Rattle.report_lines.specs.declared.report.InodeHead.{InodeHead}
use Rattle.report_draft.specs.Draft.{Draft, events_left, names_left, with_words}
use Rattle.report_lines.specs.Lines.{head_at, inode_of, is_attr, is_force, is_force_word}
use Rattle.report_read.specs.ReadBack.{IsShownAttr, IsShownForce, IsShownInode}
use Rattle.report_lines.specs.Report.{InodeValue}
use Rattle.report_read.proofs.Chains.{AllGood, blocks, chain_whole, fold_one, length-values, length_push, values, values_push}
use Rattle.report_read.proofs.EntriesBack.{digest_back, hex_back}
use Rattle.report_read.proofs.Fold.{end_of, fold, fold-append, fold_step, line_span, next, step}
use Rattle.report_read.proofs.JournalBack.{journal_back, read_events}
use Rattle.report_read.proofs.ListBack.{not_none, one_less}
use Rattle.report_read.proofs.WordsBack.{number_back}

-- ---- the first three lines

-- a draft of this stage takes an inode
abbrev pub IsBlock : Stage → Type 0
IsBlock (stage.Registers last) = Unit {0}
IsBlock stage.Inodes = Unit {0}
IsBlock _ = ⊥

head_read : (n : ℕ) (i : EndedInode) (line : Span) → n < 2 ^ 32 → i.writers < 2 ^ 32
    → i.readers < 2 ^ 32 → i.execs < 2 ^ 32
    → inode_of line (take 24 (inode_head n i))
    ≡ Some (n, head_at line i.writers i.readers i.execs)
unfolding inode_of
head_read n i line h w r x =
    rw (number_back n h, number_back i.writers w, number_back i.readers r, number_back i.execs x)
    refl

head_step : (s : Stage) (begin : ℕ) (d : Draft) (n : ℕ) (i : EndedInode) → IsBlock s
    → n < 2 ^ 32 → i.writers < 2 ^ 32 → i.readers < 2 ^ 32 → i.execs < 2 ^ 32
    → n ≡ length d.inodes
    → step begin (record d { stage = s }) (inode_head n i)
    ≡ Some (record d {
      stage = stage.Force;
      head = head_at (line_span begin (inode_head n i)) i.writers i.readers i.execs;
    })
unfolding with_words
head_step (stage.Registers last) begin d n i b h w r x is =
    rw (
      head_read n i (line_span begin (inode_head n i)) h w r x,
      eq-eqb n (length d.inodes) is,
    ) refl
head_step stage.Inodes begin d n i b h w r x is =
    rw (
      head_read n i (line_span begin (inode_head n i)) h w r x,
      eq-eqb n (length d.inodes) is,
    ) refl
head_step stage.Version begin d n i b h w r x is = absurd b
head_step stage.Run begin d n i b h w r x is = absurd b
head_step stage.List begin d n i b h w r x is = absurd b
head_step (stage.Entries k) begin d n i b h w r x is = absurd b
head_step (stage.Second k) begin d n i b h w r x is = absurd b
head_step (stage.Rules k last) begin d n i b h w r x is = absurd b
head_step stage.Force begin d n i b h w r x is = absurd b
head_step stage.Attrs begin d n i b h w r x is = absurd b
head_step (stage.Names k) begin d n i b h w r x is = absurd b
head_step stage.Journal begin d n i b h w r x is = absurd b
head_step (stage.Events k) begin d n i b h w r x is = absurd b
head_step (stage.Replies k) begin d n i b h w r x is = absurd b
head_step stage.Over begin d n i b h w r x is = absurd b

named_force : (a : Algo) (bs : List ℕ) → length bs ≡ algo_size a → IsBytes bs
    → is_force_word (algo_name a ++ codes ":" ++ encode_lower bs) ≡ true
named_force algo.Md5 bs size h = digest_back 16 bs size h
named_force algo.Sha1 bs size h = digest_back 20 bs size h
named_force algo.Sha256 bs size h = digest_back 32 bs size h
named_force algo.Sha384 bs size h = digest_back 48 bs size h
named_force algo.Sha512 bs size h = digest_back 64 bs size h
named_force algo.Sha224 bs size h = digest_back 28 bs size h

force_read : (f : Option Digest) → IsShownForce f
    → is_force (codes "force" ∷ force_word f ∷ []) ≡ true
force_read None h = refl
force_read (Some d) h = rw (named_force d.algo d.bytes h.0 h.1) refl

force_step : (begin : ℕ) (d : Draft) (f : Option Digest) → IsShownForce f
    → step begin (record d { stage = stage.Force }) (codes "force" ∷ force_word f ∷ [])
    ≡ Some (record d {
      stage = stage.Attrs;
      head = record d.head { force = line_span begin (codes "force" ∷ force_word f ∷ []) };
    })
unfolding with_words
force_step begin d f h = rw (force_read f h) refl

attrs_step : (begin : ℕ) (d : Draft) (k : ℕ) → k < 2 ^ 32
    → step begin (record d { stage = stage.Attrs }) (codes "attrs" ∷ numeral k ∷ [])
    ≡ Some (record d { stage = names_left k })
unfolding with_words
attrs_step begin d k h = rw (number_back k h) refl

-- ---- the attributes

names_more : (n : ℕ) → names_left (suc n) ≡ stage.Names (suc n)
names_more n = ap (λ (b : Bool). cond b stage.Journal (stage.Names (suc n))) (not_none n)

attr_read : (p : Pair) → IsShownAttr p → is_attr (take 24 (attr_line p)) ≡ true
attr_read p s = rw (s.0, hex_back p.1 s.1) refl

name_step : (n begin : ℕ) (d : Draft) (ws : Line) → is_attr (take 24 ws) ≡ true
    → step begin (record d { stage = stage.Names (suc n) }) ws
    ≡ Some (record d { stage = names_left n; attrs = d.attrs ++ line_span begin ws ∷ [] })
unfolding with_words
name_step n begin d ws h =
    rw h
    (ap
    (λ (k : ℕ). Some
    (record d { stage = names_left k; attrs = d.attrs ++ line_span begin ws ∷ [] }))
    (one_less n))

abbrev pub attr_block : ℕ → Pair → List Line
attr_block n p = attr_line p ∷ []

abbrev pub attr_span : ℕ → Pair → ℕ → Span
attr_span n p begin = line_span begin (attr_line p)

abbrev named : Draft → ℕ → List Pair → List Pair → Draft
named d begin done left = record d {
  stage = names_left (length left);
  attrs = values attr_block attr_span begin 0 done;
}

name_each : (d : Draft) (begin : ℕ) (done : List Pair) (p : Pair) (left : List Pair)
    → is_attr (take 24 (attr_line p)) ≡ true
    → fold (end_of begin (blocks attr_block 0 done)) (named d begin done (p ∷ left))
    (attr_block (length done) p)
    ≡ Some (named d begin (done ++ p ∷ []) left)
name_each d begin done p left good =
    let here : ℕ = end_of begin (blocks attr_block 0 done) in
    let so_far : List Span = values attr_block attr_span begin 0 done in
    let made : Draft = record d {
      stage = names_left (length left);
      attrs = so_far ++ line_span here (attr_line p) ∷ [];
    } in
    fold_one here (named d begin done (p ∷ left)) made (attr_line p)
    (subst
    (λ (s : Stage). step here (record d { stage = s; attrs = so_far }) (attr_line p) ≡ Some made)
    (sym (names_more (length left)))
    (name_step (length left) here (record d { attrs = so_far }) (attr_line p) good))
    ∙ ap
    (λ (xs : List Span). Some (record d { stage = names_left (length left); attrs = xs }))
    (sym (values_push attr_block attr_span begin done p))

names_good : (ps done : List Pair) → AllByRecursion IsShownAttr ps
    → AllGood attr_block (λ before p. is_attr (take 24 (attr_line p)) ≡ true) done ps
names_good [] done h = tt
names_good (p ∷ ps) done h = (attr_read p h.0, names_good ps (done ++ p ∷ []) h.1)

attr_rows : (ps : List Pair) (n : ℕ) → blocks attr_block n ps ≡ map attr_line ps
attr_rows [] n = refl
attr_rows (p ∷ ps) n = ap (λ (ls : List Line). attr_line p ∷ ls) (attr_rows ps (n + 1))

names_back : (ps : List Pair) (begin : ℕ) (d : Draft) → AllByRecursion IsShownAttr ps
    → fold begin (record d { stage = names_left (length ps); attrs = [] }) (map attr_line ps)
    ≡ Some (record d {
      stage = stage.Journal;
      attrs = values attr_block attr_span begin 0 ps;
    })
names_back ps begin d h =
    ap (fold begin (record d { stage = names_left (length ps); attrs = [] }))
    (sym (attr_rows ps 0))
    ∙ chain_whole attr_block (λ before p. is_attr (take 24 (attr_line p)) ≡ true) begin
    (named d begin) (name_each d begin) ps (names_good ps [] h)

-- ---- the journal

journal_step : (begin : ℕ) (d : Draft) (k : ℕ) → k < 2 ^ 32
    → step begin (record d { stage = stage.Journal }) (codes "events" ∷ numeral k ∷ [])
    ≡ Some (events_left k (record d { stage = stage.Journal }))
unfolding with_words
journal_step begin d k h = rw (number_back k h) refl

-- ---- an inode

abbrev force_line : EndedInode → Line
force_line i = codes "force" ∷ force_word i.force ∷ []

abbrev attrs_line : EndedInode → Line
attrs_line i = codes "attrs" ∷ numeral (length i.attrs) ∷ []

abbrev events_line : EndedInode → Line
events_line i = codes "events" ∷ numeral (length i.journal) ∷ []

-- where the parts of an inode begin
abbrev pub force_at : ℕ → ℕ → EndedInode → ℕ
force_at begin n i = next begin (inode_head n i)

abbrev pub attrs_at : ℕ → ℕ → EndedInode → ℕ
attrs_at begin n i = next (force_at begin n i) (force_line i)

abbrev pub names_at : ℕ → ℕ → EndedInode → ℕ
names_at begin n i = next (attrs_at begin n i) (attrs_line i)

abbrev pub journal_at : ℕ → ℕ → EndedInode → ℕ
journal_at begin n i = end_of (names_at begin n i) (map attr_line i.attrs)

abbrev pub events_at : ℕ → ℕ → EndedInode → ℕ
events_at begin n i = next (journal_at begin n i) (events_line i)

-- what is read of an inode
abbrev pub inode_value : Template → Bool → ℕ → EndedInode → ℕ → InodeValue
inode_value t g n i begin = record {
  head = record {
    line = line_span begin (inode_head n i);
    force = line_span (force_at begin n i) (force_line i);
    writers = i.writers;
    readers = i.readers;
    execs = i.execs;
  };
  attrs = values attr_block attr_span (names_at begin n i) 0 i.attrs;
  events = read_events t g (events_at begin n i) i.journal;
}

follows_of : (inode : Inode) (es : List ModelEvent) → Legal inode (newest_first es)
    → EachFollows inode (reverse es)
unfolding newest_first
follows_of inode es h = h.1

inode_back : (t : Template) (g : Bool) (s : Stage) (begin : ℕ) (d : Draft) (n : ℕ)
    (i : EndedInode) → IsBlock s → n < 2 ^ 32 → n ≡ length d.inodes
    → IsShownInode (length d.entries) i
    → fold begin (record d { stage = s; attrs = []; events = [] }) (inode_lines t g n i)
    ≡ Some (record d {
      stage = stage.Inodes;
      inodes = d.inodes ++ inode_value t g n i begin ∷ [];
      head = (inode_value t g n i begin).head;
      attrs = [];
      events = [];
    })
inode_back t g s begin d n i b h is shown =
    let v : InodeValue = inode_value t g n i begin in
    let empty : Draft = record d { attrs = []; events = [] } in
    let first : InodeHead
    = head_at (line_span begin (inode_head n i)) i.writers i.readers i.execs in
    let rest : List Line = events_line i ∷ event_lines t g 0 i.journal in
    let with_attrs : Draft = record d { head = v.head; attrs = v.attrs; events = [] } in
    fold_step begin (record empty { stage = s })
    (record empty { stage = stage.Force; head = first })
    (inode_head n i) (force_line i ∷ attrs_line i ∷ (map attr_line i.attrs ++ rest))
    (head_step s begin empty n i b h shown.writers shown.readers shown.execs is)
    ∙ (fold_step (force_at begin n i) (record empty { stage = stage.Force; head = first })
    (record empty { stage = stage.Attrs; head = v.head }) (force_line i)
    (attrs_line i ∷ (map attr_line i.attrs ++ rest))
    (force_step (force_at begin n i) (record empty { head = first }) i.force shown.force)
    ∙ (fold_step (attrs_at begin n i) (record empty { stage = stage.Attrs; head = v.head })
    (record empty { stage = names_left (length i.attrs); head = v.head }) (attrs_line i)
    (map attr_line i.attrs ++ rest)
    (attrs_step (attrs_at begin n i) (record empty { head = v.head }) (length i.attrs)
    shown.few_attrs)
    ∙ (fold-append (map attr_line i.attrs) rest (names_at begin n i)
    (record empty { stage = names_left (length i.attrs); head = v.head })
    (record with_attrs { stage = stage.Journal })
    (names_back i.attrs (names_at begin n i) (record empty { head = v.head }) shown.attrs)
    ∙ (fold_step (journal_at begin n i) (record with_attrs { stage = stage.Journal })
    (events_left (length i.journal) (record with_attrs { stage = stage.Journal }))
    (events_line i) (event_lines t g 0 i.journal)
    (journal_step (journal_at begin n i) with_attrs (length i.journal) shown.few_events)
    ∙ journal_back t g (events_at begin n i) shown.inode i.journal
    (record with_attrs { stage = stage.Journal })
    (follows_of shown.inode i.journal shown.legal) shown.small shown.entries
    shown.few_events))))

-- ---- the inodes

abbrev pub stage_of : Stage → List EndedInode → Stage
stage_of s [] = s
stage_of s (i ∷ done) = stage.Inodes

pub block_of : (s : Stage) (done : List EndedInode) → IsBlock s → IsBlock (stage_of s done)
block_of s [] b = b
block_of s (i ∷ done) b = tt

stage_push : (s : Stage) (done : List EndedInode) (i : EndedInode)
    → stage_of s (done ++ i ∷ []) ≡ stage.Inodes
stage_push s [] i = refl
stage_push s (j ∷ done) i = refl

abbrev pub last_head : InodeHead → List InodeValue → InodeHead
last_head h [] = h
last_head h (v ∷ vs) = last_head v.head vs

last_push : (h : InodeHead) (vs : List InodeValue) (v : InodeValue)
    → last_head h (vs ++ v ∷ []) ≡ v.head
last_push h [] v = refl
last_push h (w ∷ vs) v = last_push w.head vs v

module _ (t : Template) (g : Bool) (begin : ℕ) where
  abbrev pub inode_block : ℕ → EndedInode → List Line
  inode_block n i = inode_lines t g n i

  abbrev pub read_inodes : List EndedInode → List InodeValue
  read_inodes done = values inode_block (inode_value t g) begin 0 done

  abbrev pub held : Stage → Draft → List EndedInode → List EndedInode → Draft
  held s d done left = record d {
    stage = stage_of s done;
    inodes = read_inodes done;
    head = last_head d.head (read_inodes done);
    attrs = [];
    events = [];
  }

  abbrev IsNextInode : ℕ → List EndedInode → EndedInode → Type 0
  IsNextInode size done i = (length done < 2 ^ 32) × IsShownInode size i

  inode_each : (s : Stage) (d : Draft) → IsBlock s → (done : List EndedInode) (i : EndedInode)
      (left : List EndedInode) → IsNextInode (length d.entries) done i
      → fold (end_of begin (blocks inode_block 0 done)) (held s d done (i ∷ left))
      (inode_block (length done) i)
      ≡ Some (held s d (done ++ i ∷ []) left)
  inode_each s d b done i left n =
      let here : ℕ = end_of begin (blocks inode_block 0 done) in
      let v : InodeValue = inode_value t g (length done) i here in
      let more : read_inodes (done ++ i ∷ []) ≡ read_inodes done ++ v ∷ []
      = values_push inode_block (inode_value t g) begin done i in
      let made : List InodeValue → InodeHead → Stage → Option Draft = λ vs h x. Some (record d {
        stage = x;
        inodes = vs;
        head = h;
        attrs = [];
        events = [];
      }) in
      inode_back t g (stage_of s done) here
      (record d { inodes = read_inodes done; head = last_head d.head (read_inodes done) })
      (length done) i (block_of s done b) n.0
      (sym (length-values inode_block (inode_value t g) begin 0 done)) n.1
      ∙ (ap (λ (vs : List InodeValue). made vs v.head stage.Inodes) (sym more)
      ∙ (ap (λ (h : InodeHead). made (read_inodes (done ++ i ∷ [])) h stage.Inodes)
      (sym (ap (last_head d.head) more ∙ last_push d.head (read_inodes done) v))
      ∙ ap
      (λ (x : Stage). made (read_inodes (done ++ i ∷ []))
      (last_head d.head (read_inodes (done ++ i ∷ []))) x)
      (sym (stage_push s done i))))

  inodes_good : (size : ℕ) (is done : List EndedInode) → length done + length is < 2 ^ 32
      → AllByRecursion (IsShownInode size) is → AllGood inode_block (IsNextInode size) done is
  inodes_good size [] done few h = tt
  inodes_good size (i ∷ is) done few h =
      let more = length_push done i in (
        (omega (arith, few), h.0),
        inodes_good size is (done ++ i ∷ []) (omega (arith, few, more)) h.1,
      )

  inode_rows : (is : List EndedInode) (n : ℕ) → blocks inode_block n is ≡ all_inode_lines t g n is
  inode_rows [] n = refl
  inode_rows (i ∷ is) n =
      ap (λ (ls : List Line). inode_lines t g n i ++ ls) (inode_rows is (n + 1))

  -- the inodes are read
  pub inodes_back : (is : List EndedInode) (s : Stage) (d : Draft) → IsBlock s
      → length is < 2 ^ 32 → AllByRecursion (IsShownInode (length d.entries)) is
      → fold begin (record d { stage = s; inodes = []; attrs = []; events = [] })
      (all_inode_lines t g 0 is)
      ≡ Some (held s d is [])
  inodes_back is s d b few h =
      ap (fold begin (record d { stage = s; inodes = []; attrs = []; events = [] }))
      (sym (inode_rows is 0))
      ∙ chain_whole inode_block (IsNextInode (length d.entries)) begin (held s d)
      (inode_each s d b) is (inodes_good (length d.entries) is [] (omega (arith, few)) h)
