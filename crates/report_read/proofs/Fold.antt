-- The lines of a report are read one after another.
use Rattle.std.proofs.Common.{◌≡◌, ℕ, ◌+◌, List, [], ◌∷◌, ◌++◌, length, take, Option, Some, None, refl, ap}
use Rattle.std.specs.List.{join_with_byte}
use Rattle.report_text.specs.Words.{Line}
use Rattle.report_text.specs.model.events.forms.Options.{◌>>=◌}
use Rattle.report_words.specs.declared.event.Span.{Span}
use Rattle.report_draft.specs.Draft.{Draft, with_words}

-- ---- the fold

-- the range of a line that begins at this index, and the index after its newline
abbrev pub line_span : ℕ → Line → Span
line_span begin ws = record { at = begin; len = length (join_with_byte 32 ws) }

abbrev pub next : ℕ → Line → ℕ
next begin ws = begin + (length (join_with_byte 32 ws) + 1)

abbrev pub step : ℕ → Draft → Line → Option Draft
step begin d ws = with_words d.stage (line_span begin ws) (take 24 ws) d

-- what these lines make of a draft, if the first begins at this index
abbrev pub fold : ℕ → Draft → List Line → Option Draft
fold begin d [] = Some d
fold begin d (ws ∷ ls) = step begin d ws >>= λ t. fold (next begin ws) t ls

-- the index after these lines
abbrev pub end_of : ℕ → List Line → ℕ
end_of begin [] = begin
end_of begin (ws ∷ ls) = end_of (next begin ws) ls

-- the ranges of these lines
abbrev pub spans : ℕ → List Line → List Span
spans begin [] = []
spans begin (ws ∷ ls) = line_span begin ws ∷ spans (next begin ws) ls

pub fold_step : (begin : ℕ) (d t : Draft) (ws : Line) (ls : List Line)
    → step begin d ws ≡ Some t → fold begin d (ws ∷ ls) ≡ fold (next begin ws) t ls
fold_step begin d t ws ls h = rw h refl

bind_on : (o : Option Draft) (f g : Draft → Option Draft) (t : Draft) (whole : Option Draft)
    → ((u : Draft) → f u ≡ Some t → g u ≡ whole) → (o >>= f) ≡ Some t → (o >>= g) ≡ whole
bind_on None f g t whole on h = absurd (cc h)
bind_on (Some u) f g t whole on h = on u h

-- other lines go on from the draft that the first lines make
pub fold-append : (xs ys : List Line) (begin : ℕ) (d t : Draft) → fold begin d xs ≡ Some t
    → fold begin d (xs ++ ys) ≡ fold (end_of begin xs) t ys
fold-append [] ys begin d t h =
    let same : d ≡ t = cc h in ap (λ (x : Draft). fold begin x ys) same
fold-append (ws ∷ xs) ys begin d t h =
    bind_on (step begin d ws) (λ u. fold (next begin ws) u xs)
    (λ u. fold (next begin ws) u (xs ++ ys)) t (fold (end_of (next begin ws) xs) t ys)
    (λ u k. fold-append xs ys (next begin ws) u t k) h

pub spans-append : (xs ys : List Line) (begin : ℕ)
    → spans begin (xs ++ ys) ≡ spans begin xs ++ spans (end_of begin xs) ys
spans-append [] ys begin = refl
spans-append (ws ∷ xs) ys begin =
    ap (λ (s : List Span). line_span begin ws ∷ s) (spans-append xs ys (next begin ws))

pub end_of-append : (xs ys : List Line) (begin : ℕ)
    → end_of begin (xs ++ ys) ≡ end_of (end_of begin xs) ys
end_of-append [] ys begin = refl
end_of-append (ws ∷ xs) ys begin = end_of-append xs ys (next begin ws)

-- the same, from a draft that may not be there
abbrev pub fold_from : Option Draft → ℕ → List Line → Option Draft
fold_from o begin ls = o >>= λ t. fold begin t ls
