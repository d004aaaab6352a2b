-- The draft after lines, one section after another.
use Rattle.std.proofs.Common.{◌≡◌, ℕ, true, List, [], ◌∷◌, ◌++◌, take, Option, Some, None, Result, Ok, Err, ok_or, refl, ap, ◌∙◌}
use Rattle.std.specs.List.{list_all}
use Rattle.std.proofs.lemmas.List.Folds.{list_all-append}
use Rattle.text_forms.specs.Lines.{◌>>=◌}
use Rattle.script_words.specs.declared.fault.Fault.{Fault}
use Rattle.script_words.specs.declared.fault.LineCause.{LineCause}
use Rattle.script_words.specs.declared.fault.LineCause.TheVariants as cause
use Rattle.script_words.specs.Line.{fields}
use Rattle.script_words.specs.Read.{from_ended}
use Rattle.script_text.specs.Draft.{Draft, start}
use Rattle.script_text.specs.Grammar.{add, headed, placed, script_of, with_head}
use Rattle.script_text.specs.Heads.{head_of, is_over, rank, stands}
use Rattle.script_text.specs.Settings.{Made}
use Rattle.script_text.specs.declared.head.Head.{Head}
use Rattle.call_lines.proofs.Holding.{both_true}
use Rattle.call_lines.specs.Lines.{Line, begins_line, is_plain, is_read_line, lines_text, words_text}
use Rattle.call_lines.proofs.Rules.{text_after}
use Rattle.script_spelling.proofs.Lines.{cut_words_text, fields_words_text, folded, lines_of, run}

-- the lines are read word by word, and lead from draft d to draft e
pub record Reads (d : Draft) (ls : List Line) (e : Draft) : Type 0 where
  pub lines : list_all is_read_line ls ≡ true
  pub made : run d ls ≡ Ok e

pub nothing : (d : Draft) → Reads d [] d
nothing d = record { lines = refl; made = refl }

after : (r : Made) (ls ms : List Line) (e : Draft) → (r >>= λ x. run x ls) ≡ Ok e
    → ((x : Draft) → run x ls ≡ Ok e → run x (ls ++ ms) ≡ run e ms)
    → (r >>= λ x. run x (ls ++ ms)) ≡ run e ms
after (Ok x) ls ms e made more = more x made
after (Err c) ls ms e made more = absurd (cc made)

run_more : (ls ms : List Line) (d e : Draft) → run d ls ≡ Ok e → run d (ls ++ ms) ≡ run e ms
run_more [] ms d e made = let same : d ≡ e = cc made in ap (λ (x : Draft). run x ms) same
run_more (l ∷ ls) ms d e made =
    after (add d (words_text l)) ls ms e made (λ x k. run_more ls ms x e k)

pub followed : (ls ms : List Line) (d e f : Draft) → Reads d ls e → Reads e ms f
    → Reads d (ls ++ ms) f
followed ls ms d e f first others = record {
  lines = rw (list_all-append is_read_line ls ms, first.lines, others.lines) refl;
  made = run_more ls ms d e first.made ∙ others.made;
}

headed_by : (text : Option (List ℕ)) (d : Draft) (o : Option Head) (h : Head) → o ≡ Some h
    → (ok_or o cause.BadWord >>= λ k. placed k text d) ≡ placed h text d
headed_by text d None h e = absurd (cc e)
headed_by text d (Some k) h e = let same : k ≡ h = cc e in ap (λ (j : Head). placed j text d) same

placed_at : (h : Head) (text : Option (List ℕ)) (d : Draft) → stands h d ≡ true
    → placed h text d ≡ with_head h text (fields text) (record d { at = rank h })
unfolding placed
placed_at h text d e = rw e refl

added : (w : List ℕ) (ws : Line) (h : Head) (d : Draft) → is_plain w ≡ true
    → list_all is_plain ws ≡ true → head_of w ≡ Some h → stands h d ≡ true
    → add d (words_text (w ∷ ws))
    ≡ with_head h (text_after ws) (take 9 ws) (record d { at = rank h })
unfolding add
added w ws h d plain others is at =
    ap (λ (p : List ℕ × Option (List ℕ)). headed p d) (cut_words_text w ws plain)
    ∙ headed_by (text_after ws) d (head_of w) h is
    ∙ placed_at h (text_after ws) d at
    ∙ ap (λ (vs : Line). with_head h (text_after ws) (take 9 vs) (record d { at = rank h }))
    (fields_words_text ws others)

only : (r : Made) (e : Draft) → r ≡ Ok e → (r >>= λ x. run x []) ≡ Ok e
only r e is = ap (λ (s : Made). s >>= λ x. run x []) is

-- one line, by its first word
pub one_line : (w : List ℕ) (ws : Line) (h : Head) (d e : Draft)
    → begins_line w ≡ true → is_plain w ≡ true → list_all is_plain ws ≡ true
    → head_of w ≡ Some h → stands h d ≡ true
    → with_head h (text_after ws) (take 9 ws) (record d { at = rank h }) ≡ Ok e
    → Reads d ((w ∷ ws) ∷ []) e
one_line w ws h d e begins plain others is at makes = record {
  lines = both_true (is_read_line (w ∷ ws)) true
      (both_true (begins_line w) (list_all is_plain (w ∷ ws)) begins
      (both_true (is_plain w) (list_all is_plain ws) plain others)) refl;
  made = only (add d (words_text (w ∷ ws))) e (added w ws h d plain others is at ∙ makes);
}

-- lines of which the last is an ending line are the text of a script
pub text_read : (ls : List Line) (d : Draft) → Reads start ls d → is_over d ≡ true
    → script_of (lines_text ls) ≡ Ok d.script
text_read ls d h over =
    ap (λ (r : Result Draft (Fault LineCause)). r >>= λ e. Ok e.script)
    (ap (λ (ts : List (List ℕ)). from_ended add is_over 1 start ts) (lines_of ls h.lines)
    ∙ folded ls 1 start d h.lines h.made over)
