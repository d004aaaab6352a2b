-- Equal reports determine the same run, up to what the lines don't print.
use Rattle.std.proofs.Common.{inl, inr, ◌≡◌, ℕ, zero, suc, ◌+◌, ◌/◌, ◌%◌, not, ◌==◌, Bool, true, false, nat_lt, List, [], ◌∷◌, ◌++◌, length, map, codes, if◌then◌else◌, refl, sym, ap, ◌∙◌, append_assoc, arith, Option, Some, None}
use Rattle.report_events.specs.Numerals.{numeral}
use Rattle.std.specs.List.{AllByRecursion, list_all, list_any, count_by}
use Rattle.std.specs.Str.{bytes_eq}
use Rattle.std.proofs.lemmas.Bool.{cases_Bool, false≢true}
use Rattle.std.proofs.lemmas.List.Folds.{list_all-append}
use Rattle.hex.specs.Hex.{encode_lower, IsBytes}
use Rattle.hash_algos.specs.Algo.{algo_name, algo_size}
use Rattle.hash_algos.specs.declared.algo.Algo.{Algo}
use Rattle.hash_algos.specs.declared.algo.Algo.TheVariants as algo
use Rattle.hash_algos.specs.Digest.{HasDigestSize}
use Rattle.hash_algos.specs.declared.digest.Digest.{Digest}
use Rattle.ima_templates.specs.Digests.{template_digest}
use Rattle.pcr_bank.specs.Banks.{register}
use Rattle.pcr_bank.specs.declared.banks.Banks.{Banks}
use Rattle.ima_templates.specs.declared.entry.Entry.{Entry}
use Rattle.inode_meta.specs.declared.measurement.Bank.TheVariants as bank
use Rattle.inode_meta.specs.declared.measurement.Template.{Template}
use Rattle.inode_meta.specs.declared.measurement.Template.TheVariants.{Ima, ImaNg, ImaSig, ImaBuf}
use Rattle.inode_meta.specs.declared.appraisal.EvmStatus.{EvmStatus}
use Rattle.inode_meta.specs.declared.appraisal.EvmStatus.TheVariants as evm
use Rattle.inode_meta.specs.Words.{template_word}
use Rattle.list_format.specs.Line.{field_text}
use Rattle.inode_meta.specs.Fields.{template_fields}
use Rattle.xattr_store.specs.Attrs.{Pair}
use Rattle.inode_events.specs.declared.told.Event.{Event}
use Rattle.call_steps.specs.declared.reply.Reply.{Reply}
use Rattle.call_steps.specs.declared.reply.Reply.TheVariants as reply
use Rattle.report_events.specs.Words.{Line, event_lines}
use Rattle.policy_cell.specs.declared.cell.RuleEntry.{RuleEntry}
use Rattle.policy_text.specs.rules.RuleValue.{IsRule}
use Rattle.inode_events.specs.EndedInode.{EndedInodeValue as EndedInode}
use Rattle.run_model.specs.EndedValue.{EndedValue as Ended, EndedTaskValue as EndedTask}
use Rattle.report_text.specs.Report.{pcr_words, entry_words, pcr_lines_at, pcr_lines_to, pcr_lines, rule_lines, appended_lines, force_word, attr_line, inode_lines, all_inode_lines, reply_words, reply_lines, task_lines, all_task_lines, report_lines, report_of}
use Rattle.report_text.specs.Printed.{printed, IsTold, IsOneScript}
use Rattle.report_text.specs.Ranges.{FitsInode, Fits, IsClean, IsReply}
use Rattle.report_events.proofs.Numerals.{high_clean, numeral_injective}
use Rattle.report_text.proofs.Reading.{value, value_back, is_number, number_is, cause_at, cause_back, status_at, event_at, events_back}
use Rattle.text_forms.specs.Words.{is_clean, is_line}
use Rattle.text_forms.proofs.Tells.{text_tells}
use Rattle.report_text.proofs.CleanWords.{number_kept, hex_kept, append_kept, template_kept, algo_kept, cause_kept, status_kept, row_append, events_kept}
use Rattle.report_text.proofs.Entries.{digest_text, fields_are, sig_words, bytes_at, bytes_back, entry_at, entries_back}
use Rattle.report_text.proofs.Rules.{rule_at, rules_back, rules_kept}

-- ---- parts of a list

parts_by_length : {X : Type 0} (a b x y : List X) → length a ≡ length b → a ++ x ≡ b ++ y → (a ≡ b)
    × (x ≡ y)
parts_by_length [] [] x y n e = (refl, e)
parts_by_length [] (b ∷ bs) x y n e = absurd (omega (arith, n))
parts_by_length (a ∷ xs) [] x y n e = absurd (omega (arith, n))
parts_by_length (a ∷ xs) (b ∷ bs) x y n e =
    let others = parts_by_length xs bs x y (omega (arith, n)) (cc) in
    (cc (others.0), others.1)

length_map : {X Y : Type 0} (f : X → Y) (xs : List X) → length (map f xs) ≡ length xs
length_map f [] = refl
length_map f (x ∷ xs) = omega (arith, length_map f xs)

length_events : (t : Template) (g : Bool) (k : ℕ) (es : List Event) → length (event_lines t g k es)
    ≡ length es
length_events t g k [] = refl
length_events t g k (e ∷ es) = omega (arith, length_events t g (k + 1) es)

length_rules : (k : ℕ) (rs : List RuleEntry) → length (rule_lines k rs) ≡ length rs
length_rules k [] = refl
length_rules k (r ∷ rs) = omega (arith, length_rules (k + 1) rs)

-- ---- replies

-- the one algorithm whose digests have `n` bytes
abbrev algo_sized : ℕ → Algo
algo_sized n =
    if n == 16 then algo.Md5 else if n == 20 then algo.Sha1 else if n == 32 then algo.Sha256
    else if n == 48 then algo.Sha384 else if n == 64 then algo.Sha512 else algo.Sha224

abbrev digest_from : List ℕ → Digest
digest_from bytes = record { algo = algo_sized (length bytes); bytes = bytes }

abbrev reply_ok : Line → Reply
reply_ok (n ∷ hex ∷ ws) = reply.Bytes (value n) (digest_from (bytes_at hex))
reply_ok _ = reply.Done

abbrev reply_eperm : Line → Reply
reply_eperm [] = reply.Done
reply_eperm (w ∷ ws) = if bytes_eq w (codes "evm-attribute") then reply.EvmName
    else if bytes_eq w (codes "admin") then reply.NotAdmin else reply.Status (status_at w)

abbrev reply_eacces : Line → Reply
reply_eacces [] = reply.Done
reply_eacces (w ∷ ws) = reply.Denied (cause_at w)

abbrev reply_at : Line → Reply
reply_at [] = reply.Done
reply_at (w ∷ ws) =
    if bytes_eq w (codes "ok") then reply_ok ws
    else if bytes_eq w (codes "ENOENT") then reply.NotFound
    else if bytes_eq w (codes "EBADF") then reply.BadFile
    else if bytes_eq w (codes "ETXTBSY") then reply.TextBusy
    else if bytes_eq w (codes "EFBIG") then reply.TooBig
    else if bytes_eq w (codes "E2BIG") then reply.TooLong
    else if bytes_eq w (codes "ENODATA") then reply.NoData
    else if bytes_eq w (codes "EINVAL") then reply.Invalid
    else if bytes_eq w (codes "EPERM") then reply_eperm ws
    else reply_eacces ws

status_reply : (s : EvmStatus) → reply_at (reply_words (reply.Status s)) ≡ reply.Status s
status_reply evm.Pass = refl
status_reply evm.NoXattrs = refl
status_reply evm.NoLabel = refl
status_reply evm.Fail = refl
status_reply evm.Old = refl
status_reply evm.Unknown = refl

sized_back : (a : Algo) (bytes : List ℕ) → length bytes ≡ algo_size a → algo_sized (length bytes)
    ≡ a
sized_back algo.Md5 bytes h = rw h refl
sized_back algo.Sha1 bytes h = rw h refl
sized_back algo.Sha256 bytes h = rw h refl
sized_back algo.Sha384 bytes h = rw h refl
sized_back algo.Sha512 bytes h = rw h refl
sized_back algo.Sha224 bytes h = rw h refl

bytes_reply : (n : ℕ) (d : Digest) → HasDigestSize d → IsBytes d.bytes
    → reply_at (reply_words (reply.Bytes n d)) ≡ reply.Bytes n d
bytes_reply n d a k = rw (value_back n, bytes_back d.bytes k, sized_back d.algo d.bytes a) refl

reply_back : (r : Reply) → IsReply r → reply_at (reply_words r) ≡ r
reply_back reply.Done h = refl
reply_back (reply.Bytes n d) h = bytes_reply n d h.0 h.1
reply_back reply.NotFound h = refl
reply_back reply.BadFile h = refl
reply_back reply.TextBusy h = refl
reply_back reply.TooBig h = refl
reply_back reply.TooLong h = refl
reply_back reply.NoData h = refl
reply_back reply.Invalid h = refl
reply_back reply.EvmName h = refl
reply_back reply.NotAdmin h = refl
reply_back (reply.Status s) h = status_reply s
reply_back (reply.Denied c) h = rw (cause_back c) refl

reply_kept : (r : Reply) → list_all is_clean (reply_words r) ≡ true
reply_kept reply.Done = refl
reply_kept (reply.Bytes n d) = rw (number_kept n, hex_kept d.bytes) refl
reply_kept reply.NotFound = refl
reply_kept reply.BadFile = refl
reply_kept reply.TextBusy = refl
reply_kept reply.TooBig = refl
reply_kept reply.TooLong = refl
reply_kept reply.NoData = refl
reply_kept reply.Invalid = refl
reply_kept reply.EvmName = refl
reply_kept reply.NotAdmin = refl
reply_kept (reply.Status s) = rw (status_kept s) refl
reply_kept (reply.Denied c) = rw (cause_kept c) refl

reply_tells : (a b : Reply) → IsReply a → IsReply b → reply_words a ≡ reply_words b → a ≡ b
reply_tells a b p q e = sym (reply_back a p) ∙ ap reply_at e ∙ reply_back b q

-- no line follows, or the next one doesn't begin with a number
abbrev stops : List Line → Bool
stops [] = true
stops ([] ∷ ls) = true
stops ((w ∷ ws) ∷ ls) = not (is_number w)

stopped : (k : ℕ) (r : Reply) (ls x : List Line) → stops x ≡ true → x
    ≡ (numeral k ∷ reply_words r) ∷ ls → ⊥
stopped k r ls x s e =
    let one : stops ((numeral k ∷ reply_words r) ∷ ls) ≡ false = rw (number_is k) refl in
    false≢true (sym one ∙ sym (ap stops e) ∙ s)

replies_tell : (k : ℕ) (a b : List Reply) (x y : List Line) → AllByRecursion IsReply a
    → AllByRecursion IsReply b → stops x ≡ true → stops y ≡ true
    → reply_lines k a ++ x ≡ reply_lines k b ++ y → (a ≡ b) × (x ≡ y)
replies_tell k [] [] x y p q s t e = (refl, e)
replies_tell k [] (b ∷ bs) x y p q s t e =
    absurd (stopped k b (reply_lines (k + 1) bs ++ y) x s e)
replies_tell k (a ∷ rs) [] x y p q s t e =
    absurd (stopped k a (reply_lines (k + 1) rs ++ x) y t (sym e))
replies_tell k (a ∷ rs) (b ∷ bs) x y p q s t e =
    let first = reply_tells a b p.0 q.0 (cc) in
    let others = replies_tell (k + 1) rs bs x y p.1 q.1 s t (cc) in
    (cc (first, others.0), others.1)

-- ---- tasks

abbrev ending : List Line
ending = (codes "end" ∷ []) ∷ []

tasks_stop : (k : ℕ) (ts : List EndedTask) → stops (all_task_lines k ts ++ ending) ≡ true
tasks_stop k [] = refl
tasks_stop k (t ∷ ts) = refl

tasks_tell : (k : ℕ) (a b : List EndedTask)
    → AllByRecursion (λ (t : EndedTask). AllByRecursion IsReply t.replies) a
    → AllByRecursion (λ (t : EndedTask). AllByRecursion IsReply t.replies) b
    → length a ≡ length b
    → all_task_lines k a ++ ending ≡ all_task_lines k b ++ ending → map (λ t. t.replies) a
    ≡ map (λ t. t.replies) b
tasks_tell k [] [] p q n e = refl
tasks_tell k [] (b ∷ bs) p q n e = absurd (omega (arith, n))
tasks_tell k (a ∷ ts) [] p q n e = absurd (omega (arith, n))
tasks_tell k (a ∷ ts) (b ∷ bs) p q n e =
    let same : task_lines k a ++ (all_task_lines (k + 1) ts ++ ending) ≡ task_lines k b
    ++ (all_task_lines (k + 1) bs ++ ending) =
    sym (append_assoc (task_lines k a) (all_task_lines (k + 1) ts) ending) ∙ e
    ∙ append_assoc (task_lines k b) (all_task_lines (k + 1) bs) ending in
    let here = replies_tell 0 a.replies b.replies (all_task_lines (k + 1) ts ++ ending)
    (all_task_lines (k + 1) bs ++ ending) p.0 q.0 (tasks_stop (k + 1) ts)
    (tasks_stop (k + 1) bs) (cc) in
    let others = tasks_tell (k + 1) ts bs p.1 q.1 (omega (arith, n)) here.1 in
    cc (here.0, others)

-- ---- inodes

inode_tells : (t : Template) (g : Bool) (k : ℕ) (a b : EndedInode) (x y : List Line) → FitsInode a
    → FitsInode b
    → inode_lines t g k a ++ x ≡ inode_lines t g k b ++ y
    → (map (printed t g) a.journal ≡ map (printed t g) b.journal) × (x ≡ y)
inode_tells t g k a b x y p q e =
    let attrs = numeral_injective (length a.attrs) (length b.attrs) (cc)
    in
    let tail : (map attr_line a.attrs ++ (codes "events" ∷ numeral (length a.journal) ∷ [])
    ∷ event_lines t g 0 a.journal) ++ x
    ≡ (map attr_line b.attrs ++ (codes "events" ∷ numeral (length b.journal) ∷ [])
    ∷ event_lines t g 0 b.journal) ++ y = cc in
    let same : map attr_line a.attrs
    ++ ((codes "events" ∷ numeral (length a.journal) ∷ []) ∷ event_lines t g 0 a.journal ++ x)
    ≡ map attr_line b.attrs
    ++ ((codes "events" ∷ numeral (length b.journal) ∷ []) ∷ event_lines t g 0 b.journal ++ y) =
    sym (append_assoc (map attr_line a.attrs) ((codes "events" ∷ numeral (length a.journal) ∷ [])
    ∷ event_lines t g 0 a.journal) x) ∙ tail
    ∙ append_assoc (map attr_line b.attrs) ((codes "events" ∷ numeral (length b.journal) ∷ [])
    ∷ event_lines t g 0 b.journal) y in
    let rest = parts_by_length (map attr_line a.attrs) (map attr_line b.attrs) _ _
    (length_map attr_line a.attrs ∙ attrs ∙ sym (length_map attr_line b.attrs)) same in
    let count = numeral_injective (length a.journal) (length b.journal)
    (cc (rest.1)) in
    let events = parts_by_length (event_lines t g 0 a.journal) (event_lines t g 0 b.journal) x y
    (length_events t g 0 a.journal ∙ count ∙ sym (length_events t g 0 b.journal)) (cc (rest.1)) in (
      sym (events_back t g 0 a.journal p.deeds) ∙ ap (map (event_at g)) events.0
          ∙ events_back t g 0 b.journal q.deeds,
      events.1,
    )

inodes_tell : (t : Template) (g : Bool) (k : ℕ) (a b : List EndedInode) (x y : List Line)
    → AllByRecursion FitsInode a → AllByRecursion FitsInode b
    → length a ≡ length b → all_inode_lines t g k a ++ x ≡ all_inode_lines t g k b ++ y
    → (map (λ i. map (printed t g) i.journal) a ≡ map (λ i. map (printed t g) i.journal) b)
    × (x ≡ y)
inodes_tell t g k [] [] x y p q n e = (refl, e)
inodes_tell t g k [] (b ∷ bs) x y p q n e = absurd (omega (arith, n))
inodes_tell t g k (a ∷ xs) [] x y p q n e = absurd (omega (arith, n))
inodes_tell t g k (a ∷ xs) (b ∷ bs) x y p q n e =
    let first = inode_tells t g k a b (all_inode_lines t g (k + 1) xs ++ x)
    (all_inode_lines t g (k + 1) bs ++ y) p.0 q.0
    (sym (append_assoc (inode_lines t g k a) (all_inode_lines t g (k + 1) xs) x) ∙ e
    ∙ append_assoc (inode_lines t g k b) (all_inode_lines t g (k + 1) bs) y) in
    let others = inodes_tell t g (k + 1) xs bs x y p.1 q.1 (omega (arith, n)) first.1 in
    (cc (first.0, others.0), others.1)

-- ---- registers

abbrev is_pcr : Line → Bool
is_pcr [] = false
is_pcr (w ∷ ws) = bytes_eq w (codes "pcr")

abbrev after_pcrs : List Line → List Line
after_pcrs [] = []
after_pcrs (l ∷ ls) = if is_pcr l then after_pcrs ls else l ∷ ls

skip_at : (banks : Banks) (n : ℕ) (b : Bool) (x : List Line)
    → after_pcrs (pcr_lines_at banks n b ++ x) ≡ after_pcrs x
skip_at banks n true x = refl
skip_at banks n false x = refl

skip_to : (list : List Entry) (banks : Banks) (n : ℕ) (x : List Line)
    → after_pcrs (pcr_lines_to list banks n ++ x) ≡ after_pcrs x
skip_to list banks zero x = refl
skip_to list banks (suc n) x =
    ap after_pcrs
    (append_assoc (pcr_lines_to list banks n)
    (pcr_lines_at banks n (list_any (λ e. e.pcr == n) list)) x)
    ∙ skip_to list banks n (pcr_lines_at banks n (list_any (λ e. e.pcr == n) list) ++ x)
    ∙ skip_at banks n (list_any (λ e. e.pcr == n) list) x

abbrev past_pcrs : Ended → List Line
past_pcrs e = appended_lines e.grows e.base e.rules
    ++ (all_inode_lines e.template e.grows 0 e.inodes ++ (all_task_lines 0 e.tasks ++ ending))

no_pcr : (g : Bool) (base : ℕ) (rules : List RuleEntry) (t : Template) (inodes : List EndedInode)
    (tasks : List EndedTask)
    → let x = appended_lines g base rules
    ++ (all_inode_lines t g 0 inodes ++ (all_task_lines 0 tasks ++ ending)) in after_pcrs x
    ≡ x
no_pcr true base rules t inodes tasks = refl
no_pcr false base rules t [] [] = refl
no_pcr false base rules t [] (k ∷ ks) = refl
no_pcr false base rules t (i ∷ ins) tasks = refl

-- ---- the whole

abbrev after_head : List Line → List Line
after_head (mark ∷ run ∷ list ∷ ls) = ls
after_head _ = []

appended_tell : (g : Bool) (base : ℕ) (a b : List RuleEntry) (x y : List Line)
    → AllByRecursion (λ (r : RuleEntry). IsRule r.rule) a
    → AllByRecursion (λ (r : RuleEntry). IsRule r.rule) b → (g ≡ false → a ≡ []) → (g ≡ false → b ≡ [])
    → appended_lines g base a ++ x ≡ appended_lines g base b ++ y → (a ≡ b) × (x ≡ y)
appended_tell true base a b x y p q u v e =
    let count = numeral_injective (length a) (length b) (cc)
    in
    let parts = parts_by_length (rule_lines base a) (rule_lines base b) x y (length_rules base a
    ∙ count ∙ sym (length_rules base b)) (cc) in
    (sym (rules_back base a p) ∙ ap (map rule_at) parts.0 ∙ rules_back base b q, parts.1)
appended_tell false base a b x y p q u v e = (u refl ∙ sym (v refl), e)

lines_tell : (a b : Ended) → Fits a → Fits b → IsOneScript a b → report_lines a ≡ report_lines b
    → IsTold a b
lines_tell a b p q s e =
    let count = numeral_injective (length a.list) (length b.list) (cc) in
    let tails : map entry_words a.list ++ (pcr_lines a.list a.banks ++ past_pcrs a)
    ≡ map entry_words b.list ++ (pcr_lines b.list b.banks ++ past_pcrs b) = ap after_head e
    in
    let list = parts_by_length (map entry_words a.list) (map entry_words b.list)
    (pcr_lines a.list a.banks ++ past_pcrs a) (pcr_lines b.list b.banks ++ past_pcrs b)
    (length_map entry_words a.list ∙ count ∙ sym (length_map entry_words b.list)) tails in
    let back = λ (c : Ended). skip_to c.list c.banks 24 (past_pcrs c)
    ∙ no_pcr c.grows c.base c.rules c.template c.inodes c.tasks in
    let after : past_pcrs a ≡ past_pcrs b = sym (back a) ∙ ap after_pcrs list.1 ∙ back b in
    let after2 : appended_lines a.grows a.base a.rules
    ++ (all_inode_lines a.template a.grows 0 a.inodes ++ (all_task_lines 0 a.tasks ++ ending))
    ≡ appended_lines a.grows a.base b.rules
    ++ (all_inode_lines a.template a.grows 0 b.inodes ++ (all_task_lines 0 b.tasks ++ ending)) =
    rw (s.grows, s.base, s.template) (rw (s.grows, s.base, s.template) at after) in
    let rules = appended_tell a.grows a.base a.rules b.rules _ _ p.rules q.rules s.none_of_a
    (λ g. s.none_of_b (sym s.grows ∙ g)) after2 in
    let inodes = inodes_tell a.template a.grows 0 a.inodes b.inodes _ _ p.inodes q.inodes s.inodes
    rules.1 in
    let tasks = tasks_tell 0 a.tasks b.tasks p.replies q.replies s.tasks inodes.1 in
    record {
      events = inodes.0;
      count = count;
      entries = λ u v. sym (entries_back a.list u) ∙ ap (map entry_at) list.0
          ∙ entries_back b.list v;
      rules = rules.0;
      replies = tasks;
    }

-- ---- every word is clean

pub rows_append : (a b : List Line) → list_all is_line a ≡ true → list_all is_line b ≡ true
    → list_all is_line (a ++ b) ≡ true
rows_append a b h k = rw (list_all-append is_line a b, h, k) refl

pcr_kept : (pcr : ℕ) → list_all is_clean (pcr_words pcr) ≡ true
pcr_kept pcr = elim (cases_Bool (nat_lt pcr 10)) [
  | inl e ↦ rw (e, high_clean (pcr % 10)) refl
  | inr e ↦ rw (e, high_clean (pcr % 10), high_clean (pcr / 10)) refl
]

digest_kept : (t : Template) (d : Digest) → is_clean (digest_text t d) ≡ true
digest_kept Ima d = hex_kept d.bytes
digest_kept ImaNg d = append_kept (algo_name d.algo ++ codes ":") (encode_lower d.bytes)
    (append_kept (algo_name d.algo) (codes ":") (algo_kept d.algo) refl) (hex_kept d.bytes)
digest_kept ImaSig d = append_kept (algo_name d.algo ++ codes ":") (encode_lower d.bytes)
    (append_kept (algo_name d.algo) (codes ":") (algo_kept d.algo) refl) (hex_kept d.bytes)
digest_kept ImaBuf d = append_kept (algo_name d.algo ++ codes ":") (encode_lower d.bytes)
    (append_kept (algo_name d.algo) (codes ":") (algo_kept d.algo) refl) (hex_kept d.bytes)

sig_kept : (t : Template) (s : List ℕ) → list_all is_clean (sig_words t s) ≡ true
sig_kept Ima s = refl
sig_kept ImaNg s = refl
sig_kept ImaSig s = rw (hex_kept s) refl
sig_kept ImaBuf s = rw (hex_kept s) refl

is_line_append : (a : Line) (w : List ℕ) (ws : Line) → list_all is_clean a ≡ true
    → list_all is_clean (w ∷ ws) ≡ true → is_line (a ++ w ∷ ws) ≡ true
is_line_append [] w ws h k = k
is_line_append (v ∷ a) w ws h k = row_append (v ∷ a) (w ∷ ws) h k

fields_kept : (e : Entry) → IsClean e.name
    → list_all is_clean (map (λ f. field_text f e) (template_fields e.template)) ≡ true
fields_kept e h =
    ap (list_all is_clean) (fields_are e.template e)
    ∙ rw (digest_kept e.template e.digest, h)
    (sig_kept e.template e.sig)

entry_kept : (e : Entry) → IsClean e.name → is_line (entry_words e) ≡ true
entry_kept e h =
    is_line_append (pcr_words e.pcr) (encode_lower (template_digest e bank.Sha1).bytes)
    (template_word e.template ∷ map (λ f. field_text f e) (template_fields e.template))
    (pcr_kept e.pcr)
    (rw (hex_kept (template_digest e bank.Sha1).bytes, template_kept e.template) (fields_kept e h))

pub entries_kept : (es : List Entry) → AllByRecursion (λ (e : Entry). IsClean e.name) es
    → list_all is_line (map entry_words es) ≡ true
entries_kept [] h = refl
entries_kept (e ∷ es) h = rw (entry_kept e h.0) (entries_kept es h.1)

pcr_at_kept : (banks : Banks) (n : ℕ) (b : Bool)
    → list_all is_line (pcr_lines_at banks n b) ≡ true
pcr_at_kept banks n true =
    rw (
      number_kept n,
      hex_kept (register banks bank.Sha1 n),
      hex_kept (register banks bank.Sha256 n),
    ) refl
pcr_at_kept banks n false = refl

pub pcr_to_kept : (list : List Entry) (banks : Banks) (n : ℕ)
    → list_all is_line (pcr_lines_to list banks n) ≡ true
pcr_to_kept list banks zero = refl
pcr_to_kept list banks (suc n) =
    rows_append (pcr_lines_to list banks n) (pcr_lines_at banks n (list_any (λ e. e.pcr == n) list))
    (pcr_to_kept list banks n) (pcr_at_kept banks n (list_any (λ e. e.pcr == n) list))

appended_kept : (g : Bool) (base : ℕ) (rs : List RuleEntry)
    → AllByRecursion (λ (r : RuleEntry). IsRule r.rule) rs
    → list_all is_line (appended_lines g base rs) ≡ true
appended_kept true base rs h = rw (number_kept (length rs)) (rules_kept base rs h)
appended_kept false base rs h = refl

force_kept : (f : Option Digest) → is_clean (force_word f) ≡ true
force_kept None = refl
force_kept (Some d) = append_kept (algo_name d.algo ++ codes ":") (encode_lower d.bytes)
    (append_kept (algo_name d.algo) (codes ":") (algo_kept d.algo) refl) (hex_kept d.bytes)

attrs_kept : (ps : List Pair) → AllByRecursion (λ (p : Pair). IsClean p.0) ps
    → list_all is_line (map attr_line ps) ≡ true
attrs_kept [] h = refl
attrs_kept (p ∷ ps) h = rw (h.0, hex_kept p.1) (attrs_kept ps h.1)

inode_kept : (t : Template) (g : Bool) (k : ℕ) (i : EndedInode) → FitsInode i
    → list_all is_line (inode_lines t g k i) ≡ true
inode_kept t g k i h =
    let events : list_all is_line ((codes "events" ∷ numeral (length i.journal) ∷ [])
    ∷ event_lines t g 0 i.journal) ≡ true =
    rw (number_kept (length i.journal)) (events_kept t g 0 i.journal h.deeds) in
    rw (
      number_kept k,
      h.path,
      number_kept i.writers,
      number_kept i.readers,
      number_kept i.execs,
      force_kept i.force,
      number_kept (length i.attrs),
    )
    (rows_append (map attr_line i.attrs) ((codes "events" ∷ numeral (length i.journal) ∷ [])
    ∷ event_lines t g 0 i.journal) (attrs_kept i.attrs h.attrs) events)

inodes_kept : (t : Template) (g : Bool) (k : ℕ) (ins : List EndedInode)
    → AllByRecursion FitsInode ins → list_all is_line (all_inode_lines t g k ins) ≡ true
inodes_kept t g k [] h = refl
inodes_kept t g k (i ∷ ins) h =
    rows_append (inode_lines t g k i) (all_inode_lines t g (k + 1) ins)
    (inode_kept t g k i h.0) (inodes_kept t g (k + 1) ins h.1)

replies_kept : (k : ℕ) (rs : List Reply) → list_all is_line (reply_lines k rs) ≡ true
replies_kept k [] = refl
replies_kept k (r ∷ rs) = rw (number_kept k, reply_kept r) (replies_kept (k + 1) rs)

done_kept : (b : Bool) → is_clean (if b then codes "done" else codes "unfinished") ≡ true
done_kept true = refl
done_kept false = refl

tasks_kept : (k : ℕ) (ts : List EndedTask) → list_all is_line (all_task_lines k ts) ≡ true
tasks_kept k [] = refl
tasks_kept k (t ∷ ts) =
    rows_append (task_lines k t) (all_task_lines (k + 1) ts)
    (rw (number_kept k, done_kept t.done) (replies_kept 0 t.replies)) (tasks_kept (k + 1) ts)

run_kept : (s d : Bool)
    → is_clean (if s then codes "stuck" else if d then codes "done" else codes "unfinished") ≡ true
run_kept true d = refl
run_kept false true = refl
run_kept false false = refl

-- each line of a report has at least one word, and no word has a space or a newline
pub report_kept : (e : Ended) → Fits e → list_all is_line (report_lines e) ≡ true
report_kept e h =
    rw (
      run_kept e.stuck (list_all (λ t. t.done) e.tasks),
      number_kept (length e.list),
      number_kept (count_by (λ x. x.violation) e.list),
    )
    (rows_append (map entry_words e.list) (pcr_lines e.list e.banks ++ past_pcrs e)
    (entries_kept e.list h.names)
    (rows_append (pcr_lines e.list e.banks) (past_pcrs e)
    (pcr_to_kept e.list e.banks 24)
    (rows_append (appended_lines e.grows e.base e.rules)
    (all_inode_lines e.template e.grows 0 e.inodes ++ (all_task_lines 0 e.tasks ++ ending))
    (appended_kept e.grows e.base e.rules h.rules)
    (rows_append (all_inode_lines e.template e.grows 0 e.inodes) (all_task_lines 0 e.tasks
    ++ ending) (inodes_kept e.template e.grows 0 e.inodes h.inodes)
    (rows_append (all_task_lines 0 e.tasks) ending (tasks_kept 0 e.tasks) refl)))))

pub report_tells : (a b : Ended) → Fits a → Fits b → IsOneScript a b → report_of a ≡ report_of b
    → IsTold a b
report_tells a b p q s e =
    lines_tell a b p q s
    (text_tells (report_lines a) (report_lines b) (report_kept a p) (report_kept b q) e)
