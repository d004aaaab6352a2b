-- The pieces of each line, as the code appends them, make the line.
use Rattle.std.proofs.Common.{◌≡◌, ℕ, suc, ◌+◌, Bool, true, List, [], ◌∷◌, ◌++◌, map, length, codes, refl, sym, ap, ◌∙◌, append_assoc, arith}
use Rattle.report_events.specs.Numerals.{numeral}
use Rattle.std.specs.List.{flat_map, join_with_byte, list_any}
use Rattle.std.specs.Prelude.{◌==◌}
use Rattle.std.proofs.lemmas.List.{append-nil}
use Rattle.std.proofs.lemmas.Grind.{flat_map-append}
use Rattle.text_forms.specs.Tokens.{is_filled}
use Rattle.text_forms.specs.Words.{text_of}
use Rattle.list_format.specs.Line.{ascii_line}
use Rattle.pcr_bank.specs.declared.banks.Banks.{Banks}
use Rattle.ima_templates.specs.declared.entry.Entry.{Entry}
use Rattle.policy_cell.specs.declared.cell.RuleEntry.{RuleEntry}
use Rattle.policy_text.specs.Spelling.{rule_text}
use Rattle.inode_meta.specs.declared.measurement.Template.{Template}
use Rattle.inode_events.specs.EndedInode.{EndedInodeValue as EndedInode}
use Rattle.call_steps.specs.declared.reply.Reply.{Reply}
use Rattle.call_steps.specs.declared.reply.Reply.TheVariants as reply
use Rattle.report_text.specs.Report.{attr_line, entry_words, force_word, inode_head, inode_lines, pcr_lines_at, pcr_lines_to, reply_words, rule_line}
use Rattle.report_events.specs.Texts.{line_text}
use Rattle.report_events.specs.Words.{Line, event_lines, who_word}
use Rattle.report_events.proofs.Joins.{join_append}
use Rattle.report_text.proofs.Lines.{entry_line, rule_words}

-- the text of a list of lines, one for each element
pub text_of_map : {X : Type 0} (f : X → Line) (xs : List X) → text_of (map f xs)
    ≡ flat_map (λ x. line_text (f x)) xs
text_of_map f [] = refl
text_of_map f (x ∷ xs) = ap (λ l. line_text (f x) ++ l) (text_of_map f xs)

pub entries_text : (es : List Entry) → text_of (map entry_words es) ≡ flat_map ascii_line es
entries_text [] = refl
entries_text (e ∷ es) = rw (entry_line e, entries_text es) refl

-- ---- the head

head_gather : (o a w b n c v d : List ℕ) → ((((o ++ a) ++ w) ++ (b ++ n)) ++ (c ++ v)) ++ d
    ≡ o ++ (a ++ (w ++ (b ++ (n ++ (c ++ (v ++ d))))))
head_gather o a w b n c v d = simp append_assoc

head_spread : (w l n c v z : List ℕ) → w ++ (z ++ (l ++ (n ++ (c ++ (v ++ z)))))
    ≡ (w ++ z) ++ (((l ++ (n ++ (c ++ v))) ++ z) ++ [])
head_spread w l n c v z = simp (append_assoc, append-nil)

pub head_pushed : (o w n v : List ℕ)
    → ((((o ++ codes "imakern report 1\nrun ") ++ w) ++ (codes "\nlist" ++ 32 ∷ n))
    ++ (codes " violations" ++ 32 ∷ v)) ++ codes "\n"
    ≡ o ++ text_of ((codes "imakern" ∷ codes "report" ∷ codes "1" ∷ []) ∷ (codes "run" ∷ w ∷ [])
    ∷ (codes "list" ∷ n ∷ codes "violations" ∷ v ∷ []) ∷ [])
head_pushed o w n v =
    head_gather o (codes "imakern report 1\nrun ") w (codes "\nlist ") n (codes " violations ") v
    (codes "\n")
    ∙ ap (λ l. o ++ (codes "imakern report 1\nrun " ++ l))
    (head_spread w (codes "list ") n (codes " violations ") v (codes "\n"))

-- ---- a rule

rule_gather : (o k p s w b t n : List ℕ) → ((((((o ++ k) ++ p) ++ s) ++ w) ++ b) ++ t) ++ n
    ≡ o ++ ((k ++ (p ++ (s ++ (w ++ (b ++ t))))) ++ n)
rule_gather o k p s w b t n = simp append_assoc

pub rule_pushed : (o : List ℕ) (place : ℕ) (r : RuleEntry)
    → ((((((o ++ codes "rule ") ++ numeral place) ++ codes " ") ++ who_word r.who) ++ codes " ")
    ++ rule_text r.rule) ++ codes "\n"
    ≡ o ++ line_text (rule_line place r)
rule_pushed o place r =
    rule_gather o (codes "rule ") (numeral place) (codes " ") (who_word r.who) (codes " ")
    (rule_text r.rule) (codes "\n")
    ∙ ap (λ l. o ++ (l ++ 10 ∷ [])) (sym (rule_words place r))

-- ---- the registers

register_gather : (o a p b h c d e k z : List ℕ)
    → ((((o ++ (a ++ p)) ++ (b ++ h)) ++ (c ++ d)) ++ (e ++ k)) ++ z
    ≡ o ++ (a ++ (p ++ (b ++ (h ++ (c ++ (d ++ (e ++ (k ++ z))))))))
register_gather o a p b h c d e k z = simp append_assoc

register_spread : (p b h n c e k : List ℕ) → p ++ (b ++ (h ++ (n ++ (c ++ (p ++ (e ++ (k ++ n)))))))
    ≡ ((p ++ (b ++ h)) ++ n) ++ (((c ++ (p ++ (e ++ k))) ++ n) ++ [])
register_spread p b h n c e k = simp (append_assoc, append-nil)

pub register_pushed : (o p h k : List ℕ)
    → ((((o ++ (codes "pcr sha1" ++ 32 ∷ p)) ++ 32 ∷ h) ++ (codes "\npcr sha256" ++ 32 ∷ p)) ++ 32
    ∷ k) ++ codes "\n"
    ≡ o ++ text_of ((codes "pcr" ∷ codes "sha1" ∷ p ∷ h ∷ [])
    ∷ (codes "pcr" ∷ codes "sha256" ∷ p ∷ k ∷ []) ∷ [])
register_pushed o p h k =
    register_gather o (codes "pcr sha1 ") p (codes " ") h (codes "\npcr sha256 ") p (codes " ") k
    (codes "\n")
    ∙ ap (λ l. o ++ (codes "pcr sha1 " ++ l))
    (register_spread p (codes " ") h (codes "\n") (codes "pcr sha256 ") (codes " ") k)

pub registers_on : (o out new : List ℕ) (list : List Entry) (banks : Banks) (n : ℕ) (named : Bool)
    → named ≡ list_any (λ e. e.pcr == n) list
    → out ≡ o ++ text_of (pcr_lines_to list banks n) → new ≡ out
    ++ text_of (pcr_lines_at banks n named)
    → new ≡ o ++ text_of (pcr_lines_to list banks (n + 1))
registers_on o out new list banks n named is h k =
    let one : suc n ≡ n + 1 = omega arith in
    k ∙ ap (λ l. l ++ text_of (pcr_lines_at banks n named)) h
    ∙ append_assoc o (text_of (pcr_lines_to list banks n)) (text_of (pcr_lines_at banks n named))
    ∙ ap (λ b. o ++ (text_of (pcr_lines_to list banks n) ++ text_of (pcr_lines_at banks n b))) is
    ∙ ap (λ l. o ++ l)
    (sym (flat_map-append line_text (pcr_lines_to list banks n)
    (pcr_lines_at banks n (list_any (λ e. e.pcr == n) list))))
    ∙ ap (λ (m : ℕ). o ++ text_of (pcr_lines_to list banks m)) one

-- ---- an inode

inode_gather : (o i n s p a w b r c x z : List ℕ)
    → (((((((o ++ (i ++ n)) ++ s) ++ p) ++ (a ++ w)) ++ (b ++ r)) ++ (c ++ x)) ++ z)
    ≡ o ++ ((i ++ (n ++ (s ++ (p ++ (a ++ (w ++ (b ++ (r ++ (c ++ x))))))))) ++ z)
inode_gather o i n s p a w b r c x z = simp append_assoc

pub inode_head_pushed : (o n p w r x : List ℕ)
    → (((((((o ++ (codes "inode" ++ 32 ∷ n)) ++ codes " ") ++ p) ++ (codes " writers" ++ 32 ∷ w))
    ++ (codes " readers" ++ 32 ∷ r)) ++ (codes " execs" ++ 32 ∷ x)) ++ codes "\n")
    ≡ o ++ line_text (codes "inode" ∷ n ∷ p ∷ codes "writers" ∷ w ∷ codes "readers" ∷ r
    ∷ codes "execs" ∷ x ∷ [])
inode_head_pushed o n p w r x =
    inode_gather o (codes "inode ") n (codes " ") p (codes " writers ") w (codes " readers ") r
    (codes " execs ") x (codes "\n")

lines_gather : (o h f a m n z e : List ℕ) → ((((((o ++ h) ++ f) ++ a) ++ m) ++ n) ++ z) ++ e
    ≡ o ++ (h ++ (f ++ (a ++ (m ++ ((n ++ z) ++ e)))))
lines_gather o h f a m n z e = simp append_assoc

pub inode_pushed : (o : List ℕ) (t : Template) (g : Bool) (k : ℕ) (i : EndedInode)
    → ((((((o ++ line_text (inode_head k i)) ++ line_text (codes "force" ∷ force_word i.force ∷ []))
    ++ line_text (codes "attrs" ∷ numeral (length i.attrs) ∷ []))
    ++ flat_map (λ p. line_text (attr_line p)) i.attrs)
    ++ (codes "events" ++ 32 ∷ numeral (length i.journal))) ++ codes "\n")
    ++ text_of (event_lines t g 0 i.journal)
    ≡ o ++ text_of (inode_lines t g k i)
inode_pushed o t g k i =
    let events : List Line = (codes "events" ∷ numeral (length i.journal) ∷ [])
    ∷ event_lines t g 0 i.journal in
    let head = line_text (inode_head k i) in
    let force = line_text (codes "force" ∷ force_word i.force ∷ []) in
    let attrs = line_text (codes "attrs" ∷ numeral (length i.attrs) ∷ []) in
    lines_gather o head force attrs (flat_map (λ p. line_text (attr_line p)) i.attrs)
    (codes "events" ++ 32 ∷ numeral (length i.journal)) (codes "\n")
    (text_of (event_lines t g 0 i.journal))
    ∙ ap (λ l. o ++ (head ++ (force ++ (attrs ++ (l ++ text_of events)))))
    (sym (text_of_map attr_line i.attrs))
    ∙ ap (λ l. o ++ (head ++ (force ++ (attrs ++ l))))
    (sym (flat_map-append line_text (map attr_line i.attrs) events))

-- ---- a reply

pub reply_filled : (r : Reply) → is_filled (reply_words r) ≡ true
reply_filled reply.Done = refl
reply_filled (reply.Bytes n digest) = refl
reply_filled reply.NotFound = refl
reply_filled reply.BadFile = refl
reply_filled reply.TextBusy = refl
reply_filled reply.TooBig = refl
reply_filled reply.TooLong = refl
reply_filled reply.NoData = refl
reply_filled reply.Invalid = refl
reply_filled reply.EvmName = refl
reply_filled reply.NotAdmin = refl
reply_filled (reply.Status s) = refl
reply_filled (reply.Denied c) = refl

answer_gather : (o k s r n : List ℕ) → (((o ++ k) ++ s) ++ r) ++ n ≡ o ++ ((k ++ (s ++ r)) ++ n)
answer_gather o k s r n = simp append_assoc

pub answer_pushed : (o : List ℕ) (call : ℕ) (r : Reply)
    → (((o ++ numeral call) ++ codes " ") ++ join_with_byte 32 (reply_words r)) ++ codes "\n"
    ≡ o ++ line_text (numeral call ∷ reply_words r)
answer_pushed o call r =
    answer_gather o (numeral call) (codes " ") (join_with_byte 32 (reply_words r)) (codes "\n")
    ∙ ap (λ l. o ++ (l ++ 10 ∷ []))
    (sym (join_append (numeral call ∷ []) (reply_words r) refl (reply_filled r)))

-- ---- the whole

whole_gather : (h e p a i t z : List ℕ) → (((((([] ++ h) ++ e) ++ p) ++ a) ++ i) ++ t) ++ z
    ≡ h ++ (e ++ (p ++ (a ++ (i ++ (t ++ z)))))
whole_gather h e p a i t z = simp append_assoc

pub report_pushed : (h : List Line) (es : List Entry) (p a i t : List Line)
    → (((((([] ++ text_of h) ++ flat_map ascii_line es) ++ text_of p) ++ text_of a) ++ text_of i)
    ++ text_of t) ++ codes "end\n"
    ≡ text_of (h ++ (map entry_words es ++ (p ++ (a ++ (i ++ (t ++ (codes "end" ∷ []) ∷ []))))))
report_pushed h es p a i t =
    let end : List Line = (codes "end" ∷ []) ∷ [] in
    whole_gather (text_of h) (flat_map ascii_line es) (text_of p) (text_of a) (text_of i)
    (text_of t) (codes "end\n")
    ∙ sym (
    flat_map-append line_text h (map entry_words es ++ (p ++ (a ++ (i ++ (t ++ end)))))
    ∙ ap (λ l. text_of h ++ l) (
    flat_map-append line_text (map entry_words es) (p ++ (a ++ (i ++ (t ++ end))))
    ∙ rw (entries_text es) (ap (λ l. flat_map ascii_line es ++ l) (
    flat_map-append line_text p (a ++ (i ++ (t ++ end)))
    ∙ ap (λ l. text_of p ++ l) (
    flat_map-append line_text a (i ++ (t ++ end))
    ∙ ap (λ l. text_of a ++ l) (
    flat_map-append line_text i (t ++ end)
    ∙ ap (λ l. text_of i ++ l) (flat_map-append line_text t end)))))))
