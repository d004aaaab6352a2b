-- A text of lines is read as the fold of its lines.
use Rattle.std.proofs.Common.{◌≡◌, ℕ, ◌+◌, true, List, [], ◌∷◌, take, Option, Some, None, Result, Ok, refl, sym, ap, ◌∙◌, subst}
use Rattle.std.specs.Prelude.{ok_or}
use Rattle.std.specs.List.{join_with_byte, list_all}
use Rattle.std.proofs.lemmas.Bool.{and_parts, false≢true}
use Rattle.report_text.specs.Words.{Line}
use Rattle.report_text.specs.model.events.forms.Lines.{◌>>=◌, lines}
use Rattle.report_text.specs.model.events.forms.Words.{is_line, text_of}
use Rattle.report_text.proofs.about_forms.Tells.{flat_words, line_split, words_back}
use Rattle.report_words.proofs.about_lines.Reading.{some_line}
use Rattle.report_draft.specs.Draft.{Draft, is_over, with_words}
use Rattle.report_read.specs.Read.{read_from, with_line}
use Rattle.report_read.proofs.Fold.{fold, fold_from, line_span, next}
use Rattle.report_read.proofs.Reading.{one_more}

bind_read : (o : Option Draft) (n begin : ℕ) (ls : List Line) (g : Draft → Result Draft ℕ)
    (e : Draft) → ((u : Draft) → fold begin u ls ≡ Some e → g u ≡ Ok e)
    → fold_from o begin ls ≡ Some e → (ok_or o n >>= g) ≡ Ok e
bind_read None n begin ls g e on h = absurd (cc h)
bind_read (Some u) n begin ls g e on h = on u h

-- a text is read as the fold of its lines, if that may end there
pub text_read : (ls : List Line) (begin n : ℕ) (d e : Draft) → list_all is_line ls ≡ true
    → fold begin d ls ≡ Some e → is_over e ≡ true
    → read_from begin n d (lines (text_of ls)) ≡ Ok e
text_read [] begin n d e h f o =
    let same : d ≡ e = cc f in
    subst (λ (x : Draft). read_from begin n x (lines []) ≡ Ok e) (sym same) (rw o refl)
text_read ([] ∷ ls) begin n d e h f o = absurd (false≢true h)
text_read ((w ∷ ws) ∷ ls) begin n d e h f o =
    let flat = flat_words (w ∷ ws) (and_parts _ _ h).0 in
    let back = words_back w ws (and_parts _ _ h).0 in
    ap (read_from begin n d) (line_split (join_with_byte 32 (w ∷ ws)) (text_of ls) flat)
    ∙ (one_more begin n d (join_with_byte 32 (w ∷ ws)) (lines (text_of ls))
    (some_line (text_of ls))
    ∙ bind_read (with_line begin d (join_with_byte 32 (w ∷ ws))) n (next begin (w ∷ ws)) ls
    (λ u. read_from (next begin (w ∷ ws)) (n + 1) u (lines (text_of ls))) e
    (λ u k. text_read ls (next begin (w ∷ ws)) (n + 1) u e (and_parts _ _ h).1 k o)
    (subst
    (λ (x : Line). fold_from (with_words d.stage (line_span begin (w ∷ ws)) (take 24 x) d)
    (next begin (w ∷ ws)) ls ≡ Some e) (sym back) f))
