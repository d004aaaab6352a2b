-- Lines of plain words are read word by word, and one after another.
use Rattle.std.proofs.Common.{◌≡◌, ℕ, ◌+◌, Bool, true, false, not, ◌==◌, List, [], ◌∷◌, ◌++◌, map, Some, None, Result, Ok, Err, if◌then◌else◌, refl, sym, ap, ◌∙◌, arith}
use Rattle.std.specs.List.{list_all}
use Rattle.std.proofs.lemmas.Bool.{false≢true}
use Rattle.std.proofs.lemmas.Bool.Decides.{nat_tests}
use Rattle.std.proofs.lemmas.List.{append-nil}
use Rattle.policy_text.proofs.Joined.{all_joined}
use Rattle.text_forms.specs.Lines.{◌>>=◌, at_line, lines}
use Rattle.text_forms.specs.Words.{is_clean, is_clean_byte, is_visible, words}
use Rattle.text_forms.proofs.Tells.{line_split, words_back}
use Rattle.text_forms.proofs.Visible.{all_weaker, flat_from_visible}
use Rattle.script_words.specs.declared.fault.Fault.{Fault}
use Rattle.script_words.specs.declared.fault.LineCause.{LineCause}
use Rattle.script_words.specs.Line.{all_fields, cut, cut_line, head_and_text, is_skipped}
use Rattle.script_words.specs.Read.{fault_at, from_ended, step_over}
use Rattle.script_text.specs.Draft.{Draft}
use Rattle.script_text.specs.Grammar.{add}
use Rattle.script_text.specs.Heads.{is_over}
use Rattle.script_text.specs.Settings.{Made}
use Rattle.call_lines.proofs.Holding.{left_true, right_true}
pub use Rattle.call_lines.proofs.Rules.{joined_is, text_after}
use Rattle.call_lines.specs.Lines.{Line, begins_line, is_plain, is_read_line, lines_text, words_text}

-- ---- the words of a line

clean_byte : (b : ℕ) → is_visible b ≡ true → is_clean_byte b ≡ true
clean_byte b h = grind (arith, nat_tests)

clean : (w : List ℕ) → is_plain w ≡ true → is_clean w ≡ true
clean w h = all_weaker is_visible is_clean_byte clean_byte w h

no_space : (b : ℕ) → is_visible b ≡ true → (b == 32) ≡ false
no_space b h = grind (arith, nat_tests)

cut_none : (w : List ℕ) → is_plain w ≡ true → cut 32 w ≡ None
cut_none [] h = refl
cut_none (b ∷ bs) h =
    let e : (b == 32) ≡ false = no_space b (left_true (is_visible b) (is_plain bs) h) in
    rw (e, cut_none bs (right_true (is_visible b) (is_plain bs) h)) refl

cut_some : (w rest : List ℕ) → is_plain w ≡ true → cut 32 (w ++ 32 ∷ rest) ≡ Some (w, rest)
cut_some [] rest h = refl
cut_some (b ∷ bs) rest h =
    let e : (b == 32) ≡ false = no_space b (left_true (is_visible b) (is_plain bs) h) in
    rw (e, cut_some bs rest (right_true (is_visible b) (is_plain bs) h)) refl

pub cut_words_text : (w : List ℕ) (ws : Line) → is_plain w ≡ true
    → cut_line (words_text (w ∷ ws)) ≡ (w, text_after ws)
cut_words_text w [] h =
    ap cut_line (append-nil w) ∙ ap (head_and_text w) (cut_none w h)
cut_words_text w (v ∷ ws) h =
    ap (head_and_text (words_text (w ∷ v ∷ ws))) (cut_some w (words_text (v ∷ ws)) h)

pub fields_words_text : (ws : Line) → list_all is_plain ws ≡ true → all_fields (text_after ws) ≡ ws
fields_words_text [] h = refl
fields_words_text (w ∷ ws) h =
    ap words (joined_is w ws) ∙ words_back w ws (all_weaker is_plain is_clean clean (w ∷ ws) h)

-- ---- the lines of a text

flat : (l : Line) → is_read_line l ≡ true → list_all (λ b. not (b == 10)) (words_text l) ≡ true
flat [] h = refl
flat (w ∷ ws) h =
    ap (λ (t : List ℕ). list_all (λ b. not (b == 10)) t) (joined_is w ws)
    ∙ all_joined (λ b. not (b == 10)) 32 refl (w ∷ ws)
    (all_weaker is_plain (λ v. list_all (λ b. not (b == 10)) v) flat_from_visible (w ∷ ws)
    (right_true (begins_line w) (list_all is_plain (w ∷ ws)) h))

pub lines_of : (ls : List Line) → list_all is_read_line ls ≡ true
    → lines (lines_text ls) ≡ map words_text ls ++ [] ∷ []
lines_of [] h = refl
lines_of (l ∷ ls) h =
    line_split (words_text l) (lines_text ls)
    (flat l (left_true (is_read_line l) (list_all is_read_line ls) h))
    ∙ ap (λ (ts : List (List ℕ)). words_text l ∷ ts)
    (lines_of ls (right_true (is_read_line l) (list_all is_read_line ls) h))

not_comment : (c : ℕ) → not (c == 35) ≡ true → (c == 35) ≡ false
not_comment c h = grind (arith, nat_tests)

not_skipped : (l : Line) → is_read_line l ≡ true → is_skipped (words_text l) ≡ false
not_skipped [] h = absurd (false≢true h)
not_skipped ([] ∷ ws) h = absurd (false≢true h)
not_skipped ((c ∷ cs) ∷ []) h = not_comment c (left_true (not (c == 35)) _ h)
not_skipped ((c ∷ cs) ∷ v ∷ ws) h = not_comment c (left_true (not (c == 35)) _ h)

-- the draft after these lines
abbrev pub run : Draft → List Line → Made
run d [] = Ok d
run d (l ∷ ls) = add d (words_text l) >>= λ e. run e ls

abbrev Folded : ℕ → Draft → List (List ℕ) → Result Draft (Fault LineCause)
Folded n d texts = from_ended add is_over n d texts

one_by_one : (n : ℕ) (d : Draft) (line : List ℕ) (texts : List (List ℕ))
    → Folded n d (line ∷ (texts ++ [] ∷ []))
    ≡ (at_line fault_at n (step_over add d line) >>= λ e. Folded (n + 1) e (texts ++ [] ∷ []))
one_by_one n d line [] = refl
one_by_one n d line (t ∷ ts) = refl

-- after a line that was read the rest depends only on the lines after it
after : (n : ℕ) (r : Made) (ls : List Line) (e : Draft) → (r >>= λ x. run x ls) ≡ Ok e
    → ((x : Draft) → run x ls ≡ Ok e → Folded (n + 1) x (map words_text ls ++ [] ∷ []) ≡ Ok e)
    → (at_line fault_at n r >>= λ x. Folded (n + 1) x (map words_text ls ++ [] ∷ [])) ≡ Ok e
after n (Ok x) ls e made more = more x made
after n (Err c) ls e made more = absurd (cc made)

-- lines that are all read, the last as an ending line, make up a text
pub folded : (ls : List Line) (n : ℕ) (d e : Draft) → list_all is_read_line ls ≡ true
    → run d ls ≡ Ok e → is_over e ≡ true → Folded n d (map words_text ls ++ [] ∷ []) ≡ Ok e
folded [] n d e h made over =
    let same : e ≡ d = cc made in
    let ends : is_over d ≡ true = ap (λ (x : Draft). is_over x) (sym same) ∙ over in
    rw ends (ap (λ (x : Draft). Ok x) (sym same))
folded (l ∷ ls) n d e h made over =
    let here = left_true (is_read_line l) (list_all is_read_line ls) h in
    let others = right_true (is_read_line l) (list_all is_read_line ls) h in
    one_by_one n d (words_text l) (map words_text ls)
    ∙ ap (λ (b : Bool).
    at_line fault_at n (if b then Ok d else add d (words_text l)) >>= λ x.
    Folded (n + 1) x (map words_text ls ++ [] ∷ [])) (not_skipped l here)
    ∙ after n (add d (words_text l)) ls e made (λ x k. folded ls (n + 1) x e others k over)
