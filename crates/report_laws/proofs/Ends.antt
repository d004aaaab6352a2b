-- A report ends at its first line `end`: each line before it has at least two words.
use Rattle.std.proofs.Common.{◌≡◌, ℕ, zero, suc, ◌+◌, ◌==◌, Bool, true, false, List, [], ◌∷◌, ◌++◌, length, map, codes, refl, sym, ap, ◌∙◌, append_assoc, inl, inr}
use Rattle.std.specs.List.{list_all, list_any, slice_split, onto_first, join_with_byte}
use Rattle.std.proofs.lemmas.Bool.{and_from, and_parts, both_ways, cases_Bool, false≢true}
use Rattle.std.proofs.lemmas.List.{append-nil, append_cancel_right, map-append}
use Rattle.std.proofs.lemmas.List.Concat.{flat_map-append}
use Rattle.std.proofs.lemmas.List.Folds.{list_all-append}
use Rattle.std.proofs.lemmas.List.Splits.{slice_split-cons_no, slice_split-cons_yes}
use Rattle.inode_meta.specs.declared.measurement.Template.{Template}
use Rattle.inode_meta.specs.declared.step.Who.{Who}
use Rattle.ima_templates.specs.declared.entry.Entry.{Entry}
use Rattle.run_model.specs.registers.declared.banks.Banks.{Banks}
use Rattle.text_forms.specs.Lines.{lines}
use Rattle.text_forms.specs.Tokens.{is_filled}
use Rattle.text_forms.specs.Words.{is_line, text_of, words}
use Rattle.text_forms.proofs.Tells.{lines_back}
use Rattle.ima_templates.specs.xattrs.Attrs.{Pair}
use Rattle.inode_events.specs.EndedInode.{EndedInodeValue as EndedInode}
use Rattle.inode_events.specs.declared.deed.Deed.{Deed}
use Rattle.inode_events.specs.declared.deed.Deed.TheVariants as deed
use Rattle.inode_events.specs.declared.told.Event.{Event}
use Rattle.inode_events.specs.declared.told.Told.{Told}
use Rattle.call_steps.specs.declared.ending.Ending.{Ending}
use Rattle.call_steps.specs.declared.reply.Reply.{Reply}
use Rattle.call_steps.specs.declared.reply.Reply.TheVariants as reply
use Rattle.run_model.specs.EndedValue.{EndedTaskValue as EndedTask, EndedValue as Ended, ended_of}
use Rattle.run_model.specs.Scene.{Scene}
use Rattle.run_model.specs.Served.{Run}
use Rattle.run_model.specs.Shown.{IsShown}
use Rattle.run_model.specs.rules.declared.cell.RuleEntry.{RuleEntry}
use Rattle.report_text.specs.Numerals.{numeral}
use Rattle.report_text.specs.Ranges.{Fits}
use Rattle.report_text.specs.Report.{all_inode_lines, all_task_lines, appended_lines, attr_line, entry_words, head_lines, inode_lines, pcr_lines, pcr_lines_at, pcr_lines_to, pcr_words, reply_lines, reply_words, report_lines, report_of, rule_lines, task_lines}
use Rattle.report_text.specs.Texts.{line_text}
use Rattle.report_text.specs.Words.{Line, event_lines, event_words, step_words}
use Rattle.report_text.proofs.Whole.{report_kept}
use Rattle.report_laws.specs.Law.{BeginningDetermines, HasNames}
use Rattle.report_laws.proofs.Fitting.{shown_fits}
use Rattle.report_laws.proofs.Runs.{report_determines}

-- ---- parts of a list

-- if all elements of two lists pass a test, so do those of the joined list
all_append : {X : Type 0} (p : X → Bool) (xs ys : List X) → list_all p xs ≡ true
    → list_all p ys ≡ true → list_all p (xs ++ ys) ≡ true
all_append p xs ys h k =
    list_all-append p xs ys ∙ and_from (list_all p xs) (list_all p ys) h k

-- if all elements of six lists pass a test, so do those of the joined list
all_of_six : {X : Type 0} (p : X → Bool) (a b c d e f : List X) → list_all p a ≡ true
    → list_all p b ≡ true → list_all p c ≡ true → list_all p d ≡ true → list_all p e ≡ true
    → list_all p f ≡ true → list_all p (a ++ (b ++ (c ++ (d ++ (e ++ f))))) ≡ true
all_of_six p a b c d e f ha hb hc hd he hf =
    all_append p a (b ++ (c ++ (d ++ (e ++ f)))) ha
    (all_append p b (c ++ (d ++ (e ++ f))) hb
    (all_append p c (d ++ (e ++ f)) hc (all_append p d (e ++ f) hd (all_append p e f he hf))))

-- ---- splitting a joined list

-- an element put in front of the first part leaves at least one part
onto_filled : {X : Type 0} (x : X) (parts : List (List X)) → is_filled (onto_first x parts) ≡ true
onto_filled x [] = refl
onto_filled x (w ∷ ws) = refl

-- an element put in front of the first part changes none of those after it
onto_append : {X : Type 0} (x : X) (parts others : List (List X)) → is_filled parts ≡ true
    → onto_first x (parts ++ others) ≡ onto_first x parts ++ others
onto_append x [] others h = absurd (false≢true h)
onto_append x (w ∷ ws) others h = refl

module _ {X : Type 0} (p : X → Bool) where
  -- splitting a list gives at least one part
  split_filled : (xs : List X) → is_filled (slice_split p xs) ≡ true
  split_filled [] = refl
  split_filled (x ∷ xs) = elim (cases_Bool (p x)) [
    | inl e ↦ rw e refl
    | inr e ↦ rw e (onto_filled x (slice_split p xs))
  ]

  -- splitting two lists with a separator between them gives the parts of both
  split_append : (xs : List X) (y : X) (ys : List X) → p y ≡ true
      → slice_split p (xs ++ y ∷ ys) ≡ slice_split p xs ++ slice_split p ys
  split_append [] y ys h = slice_split-cons_yes p y ys h
  split_append (x ∷ xs) y ys h = elim (cases_Bool (p x)) [
    | inl e ↦ slice_split-cons_yes p x (xs ++ y ∷ ys) e
        ∙ ap (λ (parts : List (List X)). [] ∷ parts) (split_append xs y ys h)
        ∙ ap (λ (parts : List (List X)). parts ++ slice_split p ys)
        (sym (slice_split-cons_yes p x xs e))
    | inr e ↦ slice_split-cons_no p x (xs ++ y ∷ ys) e
        ∙ ap (onto_first x) (split_append xs y ys h)
        ∙ onto_append x (slice_split p xs) (slice_split p ys) (split_filled xs)
        ∙ ap (λ (parts : List (List X)). parts ++ slice_split p ys)
        (sym (slice_split-cons_no p x xs e))
  ]

-- ---- texts that begin with lines

-- the bytes of a last line, regrouped so that its newline begins what follows
gather : (s w x : List ℕ) → (s ++ ((w ++ 10 ∷ []) ++ [])) ++ x ≡ (s ++ w) ++ 10 ∷ x
gather s w x = simp (append_assoc, append-nil)

-- a text that begins with lines has a newline after the last of them
text_ends : (ls : List Line) (end : Line) (x : List ℕ)
    → text_of (ls ++ end ∷ []) ++ x ≡ (text_of ls ++ join_with_byte 32 end) ++ 10 ∷ x
text_ends ls end x =
    ap (λ (t : List ℕ). t ++ x) (flat_map-append line_text ls (end ∷ []))
    ∙ gather (text_of ls) (join_with_byte 32 end) x

-- a text that begins with lines is split after the last of them
split_after : (ls : List Line) (end : Line) (x : List ℕ)
    → map words (lines (text_of (ls ++ end ∷ []) ++ x))
    ≡ map words (lines (text_of ls ++ join_with_byte 32 end)) ++ map words (lines x)
split_after ls end x =
    let front = text_of ls ++ join_with_byte 32 end in
    ap (λ (t : List ℕ). map words (lines t)) (text_ends ls end x)
    ∙ ap (map words) (split_append (λ (b : ℕ). b == 10) front 10 x refl)
    ∙ map-append words (lines front) (lines x)

-- splitting a text that begins with lines gives these lines first
lines_first : (ls : List Line) (end : Line) (x : List ℕ) → list_all is_line (ls ++ end ∷ []) ≡ true
    → map words (lines (text_of (ls ++ end ∷ []) ++ x)) ≡ ls ++ end ∷ map words (lines x)
lines_first ls end x h =
    let front = map words (lines (text_of ls ++ join_with_byte 32 end)) in
    let whole : front ++ ([] ∷ []) ∷ [] ≡ (ls ++ end ∷ []) ++ ([] ∷ []) ∷ [] =
    sym (split_after ls end [])
    ∙ ap (λ (t : List ℕ). map words (lines t)) (append-nil (text_of (ls ++ end ∷ [])))
    ∙ lines_back (ls ++ end ∷ []) h in
    split_after ls end x
    ∙ ap (λ (l : List Line). l ++ map words (lines x))
    (append_cancel_right front (ls ++ end ∷ []) (([] ∷ []) ∷ []) whole)
    ∙ append_assoc ls (end ∷ []) (map words (lines x))

-- ---- the first line of one word

-- whether a line has at least two words
abbrev is_long : Line → Bool
is_long (w ∷ v ∷ ws) = true
is_long _ = false

-- equal lists have the same long lines before their first short line
before_short : (ls ms : List Line) (end : Line) (x y : List Line) → list_all is_long ls ≡ true
    → list_all is_long ms ≡ true → is_long end ≡ false → ls ++ end ∷ x ≡ ms ++ end ∷ y → ls ≡ ms
before_short [] [] end x y h k s e = refl
before_short [] (m ∷ ms) end x y h k s e =
    let here : end ≡ m = cc in
    absurd (both_ways (is_long m) (ap is_long (sym here) ∙ s)
    (and_parts (is_long m) (list_all is_long ms) k).0)
before_short (l ∷ ls) [] end x y h k s e =
    let here : l ≡ end = cc in
    absurd (both_ways (is_long l) (ap is_long here ∙ s)
    (and_parts (is_long l) (list_all is_long ls) h).0)
before_short (l ∷ ls) (m ∷ ms) end x y h k s e =
    let here : l ≡ m = cc in
    let others : ls ≡ ms =
    before_short ls ms end x y (and_parts (is_long l) (list_all is_long ls) h).1
    (and_parts (is_long m) (list_all is_long ms) k).1 s (cc) in
    λ i. here i ∷ others i

-- equal texts that begin with lines have the same long lines before their first short line
same_lines : (ls ms : List Line) (end : Line) (x y : List ℕ)
    → list_all is_line (ls ++ end ∷ []) ≡ true → list_all is_line (ms ++ end ∷ []) ≡ true
    → list_all is_long ls ≡ true → list_all is_long ms ≡ true → is_long end ≡ false
    → text_of (ls ++ end ∷ []) ++ x ≡ text_of (ms ++ end ∷ []) ++ y → ls ≡ ms
same_lines ls ms end x y p q h k s e =
    before_short ls ms end (map words (lines x)) (map words (lines y)) h k s
    (sym (lines_first ls end x p) ∙ ap (λ (t : List ℕ). map words (lines t)) e
    ∙ lines_first ms end y q)

-- ---- the lines of a report before `end`

-- words before two others make a long line
long_append : (a : Line) (w v : List ℕ) (ws : Line) → is_long (a ++ w ∷ v ∷ ws) ≡ true
long_append [] w v ws = refl
long_append (b ∷ []) w v ws = refl
long_append (b ∷ c ∷ a) w v ws = refl

-- each entry is a long line
entries_long : (es : List Entry) → list_all is_long (map entry_words es) ≡ true
entries_long [] = refl
entries_long (e ∷ es) =
    and_from (is_long (entry_words e)) (list_all is_long (map entry_words es))
    (long_append (pcr_words e.pcr) _ _ _) (entries_long es)

-- the two lines of a register are long
pcr_at_long : (banks : Banks) (n : ℕ) (b : Bool)
    → list_all is_long (pcr_lines_at banks n b) ≡ true
pcr_at_long banks n true = refl
pcr_at_long banks n false = refl

-- the lines of the registers below a number are long
pcrs_long : (list : List Entry) (banks : Banks) (n : ℕ)
    → list_all is_long (pcr_lines_to list banks n) ≡ true
pcrs_long list banks zero = refl
pcrs_long list banks (suc n) =
    all_append is_long (pcr_lines_to list banks n)
    (pcr_lines_at banks n (list_any (λ e. e.pcr == n) list)) (pcrs_long list banks n)
    (pcr_at_long banks n (list_any (λ e. e.pcr == n) list))

-- each appended rule is a long line
rules_long : (k : ℕ) (rs : List RuleEntry) → list_all is_long (rule_lines k rs) ≡ true
rules_long k [] = refl
rules_long k (r ∷ rs) = rules_long (k + 1) rs

-- the lines of the appended rules are long
appended_long : (g : Bool) (base : ℕ) (rs : List RuleEntry)
    → list_all is_long (appended_lines g base rs) ≡ true
appended_long true base rs = rules_long base rs
appended_long false base rs = refl

-- each attribute is a long line
attrs_long : (ps : List Pair) → list_all is_long (map attr_line ps) ≡ true
attrs_long [] = refl
attrs_long (p ∷ ps) = attrs_long ps

-- the line of an event has a word after its place
event_long : (w : List ℕ) (t : Template) (g : Bool) (who : Who) (d : Deed) (o : Told)
    → is_long (w ∷ step_words t g who d o) ≡ true
event_long w t g who deed.Birth o = refl
event_long w t g who d o = refl

-- each event is a long line
events_long : (t : Template) (g : Bool) (k : ℕ) (es : List Event)
    → list_all is_long (event_lines t g k es) ≡ true
events_long t g k [] = refl
events_long t g k (e ∷ es) =
    and_from (is_long (event_words t g k e)) (list_all is_long (event_lines t g (k + 1) es))
    (event_long (numeral k) t g e.who e.deed e.told) (events_long t g (k + 1) es)

-- the lines of an inode are long
inode_long : (t : Template) (g : Bool) (k : ℕ) (i : EndedInode)
    → list_all is_long (inode_lines t g k i) ≡ true
inode_long t g k i =
    all_append is_long (map attr_line i.attrs)
    ((codes "events" ∷ numeral (length i.journal) ∷ []) ∷ event_lines t g 0 i.journal)
    (attrs_long i.attrs) (events_long t g 0 i.journal)

-- the lines of all inodes are long
inodes_long : (t : Template) (g : Bool) (k : ℕ) (ins : List EndedInode)
    → list_all is_long (all_inode_lines t g k ins) ≡ true
inodes_long t g k [] = refl
inodes_long t g k (i ∷ ins) =
    all_append is_long (inode_lines t g k i) (all_inode_lines t g (k + 1) ins)
    (inode_long t g k i) (inodes_long t g (k + 1) ins)

-- the line of a reply has a word after its number
reply_long : (w : List ℕ) (r : Reply) → is_long (w ∷ reply_words r) ≡ true
reply_long w reply.Done = refl
reply_long w r = refl

-- each reply is a long line
replies_long : (k : ℕ) (rs : List Reply) → list_all is_long (reply_lines k rs) ≡ true
replies_long k [] = refl
replies_long k (r ∷ rs) =
    and_from (is_long (numeral k ∷ reply_words r)) (list_all is_long (reply_lines (k + 1) rs))
    (reply_long (numeral k) r) (replies_long (k + 1) rs)

-- the lines of all tasks are long
tasks_long : (k : ℕ) (ts : List EndedTask) → list_all is_long (all_task_lines k ts) ≡ true
tasks_long k [] = refl
tasks_long k (t ∷ ts) =
    all_append is_long (task_lines k t) (all_task_lines (k + 1) ts) (replies_long 0 t.replies)
    (tasks_long (k + 1) ts)

-- ---- the whole

-- the last line of a report
abbrev end_line : Line
end_line = codes "end" ∷ []

-- the lines of a report before the last
abbrev before_end : Ended → List Line
before_end e =
    head_lines e
    ++ (map entry_words e.list
    ++ (pcr_lines e.list e.banks
    ++ (appended_lines e.grows e.base e.rules
    ++ (all_inode_lines e.template e.grows 0 e.inodes ++ all_task_lines 0 e.tasks))))

-- seven joined lists, regrouped so that the last is joined to all others
regroup : (a b c d e f g : List Line) → a ++ (b ++ (c ++ (d ++ (e ++ (f ++ g)))))
    ≡ (a ++ (b ++ (c ++ (d ++ (e ++ f))))) ++ g
regroup a b c d e f g = simp append_assoc

-- a report has the line `end` after all others
is_ended : (e : Ended) → report_lines e ≡ before_end e ++ end_line ∷ []
is_ended e =
    regroup (head_lines e) (map entry_words e.list) (pcr_lines e.list e.banks)
    (appended_lines e.grows e.base e.rules) (all_inode_lines e.template e.grows 0 e.inodes)
    (all_task_lines 0 e.tasks) (end_line ∷ [])

-- each line before `end` is long
before_long : (e : Ended) → list_all is_long (before_end e) ≡ true
before_long e =
    all_of_six is_long (head_lines e) (map entry_words e.list) (pcr_lines e.list e.banks)
    (appended_lines e.grows e.base e.rules) (all_inode_lines e.template e.grows 0 e.inodes)
    (all_task_lines 0 e.tasks) refl (entries_long e.list) (pcrs_long e.list e.banks 24)
    (appended_long e.grows e.base e.rules) (inodes_long e.template e.grows 0 e.inodes)
    (tasks_long 0 e.tasks)

-- no word of the lines before `end`, or of `end`, has a space or a newline
ended_clean : (e : Ended) → Fits e → list_all is_line (before_end e ++ end_line ∷ []) ≡ true
ended_clean e h = ap (list_all is_line) (sym (is_ended e)) ∙ report_kept e h

-- reports at the beginning of equal texts are equal
same_reports : (a b : Ended) (x y : List ℕ) → Fits a → Fits b
    → report_of a ++ x ≡ report_of b ++ y → report_of a ≡ report_of b
same_reports a b x y p q e =
    let inner : before_end a ≡ before_end b =
    same_lines (before_end a) (before_end b) end_line x y (ended_clean a p) (ended_clean b q)
    (before_long a) (before_long b) refl
    (ap (λ (ls : List Line). text_of ls ++ x) (sym (is_ended a)) ∙ e
    ∙ ap (λ (ls : List Line). text_of ls ++ y) (is_ended b)) in
    ap text_of (is_ended a) ∙ ap (λ (ls : List Line). text_of (ls ++ end_line ∷ [])) inner
    ∙ ap text_of (sym (is_ended b))

-- reports of runs shown by one script are equal if equal texts begin with them
pub report_ends : (scene : Scene) (ending : Ending) (a b : Run) (x y : List ℕ) → HasNames scene
    → IsShown scene ending a → IsShown scene ending b
    → report_of (ended_of scene a) ++ x ≡ report_of (ended_of scene b) ++ y
    → report_of (ended_of scene a) ≡ report_of (ended_of scene b)
report_ends scene ending a b x y names sa sb e =
    same_reports (ended_of scene a) (ended_of scene b) x y (shown_fits scene ending a names sa)
    (shown_fits scene ending b names sb) e

-- two runs shown by one script are the same run if equal texts begin with their reports
pub beginning_determines : BeginningDetermines
beginning_determines scene ending a b x y names sa sb e =
    report_determines scene ending a b names sa sb
    (report_ends scene ending a b x y names sa sb e)
