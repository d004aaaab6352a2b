-- The pieces of the output, as the code appends them, make its lines.
use Rattle.std.proofs.Common.{◌≡◌, ℕ, ◌<◌, get_or, true, List, [], ◌∷◌, ◌++◌, length, codes, refl, sym, ap, ◌∙◌, append_assoc}
use Rattle.std.specs.List.{join_with_byte}
use Rattle.std.proofs.lemmas.List.{append-nil}
use Rattle.std.proofs.lemmas.List.Concat.{flat_map-append}
use Rattle.std.proofs.lemmas.Option.{same_Some, slice_get-get_or}
use Rattle.report_text.specs.Numerals.{numeral}
use Rattle.report_text.specs.Texts.{line_text}
use Rattle.report_text.specs.Words.{Line}
use Rattle.report_text.proofs.Joins.{join_append}
use Rattle.script_text.specs.events.forms.Tokens.{is_filled}
use Rattle.script_text.specs.events.forms.Words.{text_of}
use Rattle.buffer_measure.specs.Print.{answer_words, head_lines}
use Rattle.buffer_measure.specs.declared.answer.Answer.{Answer}
use Rattle.buffer_measure.specs.declared.answer.Answer.TheVariants.{Skipped, Added, Already}

-- an answer has a word
answer_filled : (a : Answer) → is_filled (answer_words a) ≡ true
answer_filled Skipped = refl
answer_filled (Added place) = refl
answer_filled (Already place) = refl

line_gather : (o k s r n : List ℕ) → (((o ++ k) ++ s) ++ r) ++ n ≡ o ++ ((k ++ (s ++ r)) ++ n)
line_gather o k s r n = simp append_assoc

pub line_pushed : (o : List ℕ) (number : ℕ) (a : Answer)
    → (((o ++ numeral number) ++ codes " ") ++ join_with_byte 32 (answer_words a)) ++ codes "\n"
    ≡ o ++ line_text (numeral number ∷ answer_words a)
line_pushed o number a =
    line_gather o (numeral number) (codes " ") (join_with_byte 32 (answer_words a)) (codes "\n")
    ∙ ap (λ (l : List ℕ). o ++ (l ++ 10 ∷ []))
    (sym (join_append (numeral number ∷ []) (answer_words a) refl (answer_filled a)))

-- an element is the same whatever the default is
pub by_default : {A : Type 0} (xs : List A) (k : ℕ) (d e : A) → k < length xs
    → get_or xs k d ≡ get_or xs k e
by_default xs k d e below =
    same_Some (get_or xs k d) (get_or xs k e)
    (sym (slice_get-get_or xs k d below) ∙ slice_get-get_or xs k e below)

head_gather : (o a l n v w : List ℕ) → ((o ++ a) ++ (l ++ n)) ++ (v ++ w)
    ≡ o ++ (a ++ (((l ++ (n ++ v)) ++ w) ++ []))
head_gather o a l n v w = simp (append_assoc, append-nil)

-- the first two lines
pub head_pushed : (o : List ℕ) (n : ℕ)
    → ((o ++ codes "imakern buffers 1\n") ++ join_with_byte 32 (codes "list" ∷ numeral n ∷ []))
    ++ codes " violations 0\n" ≡ o ++ text_of (head_lines n)
head_pushed o n =
    head_gather o (codes "imakern buffers 1\n") (codes "list ") (numeral n)
    (codes " violations 0") (codes "\n")

-- the text of some lines and then of others
pub lines_append : (a b : List Line) → text_of (a ++ b) ≡ text_of a ++ text_of b
lines_append a b = flat_map-append line_text a b

rest_gather : (o p c z : List ℕ) → ((o ++ p) ++ c) ++ z ≡ o ++ (p ++ (c ++ z))
rest_gather o p c z = simp append_assoc

-- the sections after the list
pub rest_pushed : (o : List ℕ) (p c : List Line)
    → ((o ++ text_of p) ++ text_of c) ++ codes "end\n"
    ≡ o ++ text_of (p ++ (c ++ (codes "end" ∷ []) ∷ []))
rest_pushed o p c =
    let z : List Line = (codes "end" ∷ []) ∷ [] in
    rest_gather o (text_of p) (text_of c) (codes "end\n")
    ∙ ap (λ (l : List ℕ). o ++ (text_of p ++ l)) (sym (lines_append c z))
    ∙ ap (λ (l : List ℕ). o ++ l) (sym (lines_append p (c ++ z)))

run_gather : (h e r : List ℕ) → (([] ++ h) ++ e) ++ r ≡ h ++ (e ++ r)
run_gather h e r = simp append_assoc

-- the sections one after another, of which the second is the entries
pub run_pushed : (h es r : List Line) (e : List ℕ) → text_of es ≡ e
    → (([] ++ text_of h) ++ e) ++ text_of r ≡ text_of (h ++ (es ++ r))
run_pushed h es r e is =
    run_gather (text_of h) e (text_of r)
    ∙ ap (λ (l : List ℕ). text_of h ++ (l ++ text_of r)) (sym is)
    ∙ ap (λ (l : List ℕ). text_of h ++ l) (sym (lines_append es r))
    ∙ sym (lines_append h (es ++ r))
