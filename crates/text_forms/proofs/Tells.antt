-- The text of lines of words determines the words.
use Rattle.std.proofs.Common.{◌≡◌, ℕ, true, not, ◌==◌, List, [], ◌∷◌, ◌++◌, map, refl, sym, ap, ◌∙◌, append_assoc, arith}
use Rattle.std.specs.List.{slice_split, list_all, join_with_byte}
use Rattle.std.proofs.lemmas.Bool.{and_parts, false≢true}
use Rattle.std.proofs.lemmas.Bool.Decides.{nat_tests}
use Rattle.std.proofs.lemmas.List.{append-nil, append_cancel_right}
use Rattle.std.proofs.lemmas.List.Folds.{list_all-append}
use Rattle.text_forms.specs.Lines.{lines}
use Rattle.text_forms.specs.Words.{words, is_clean, is_clean_byte, is_line, text_of}
use Rattle.text_forms.proofs.Cuts.{part}
use Rattle.text_forms.proofs.Visible.{all_weaker}

same_byte : (c : ℕ) → (c == c) ≡ true
same_byte c = grind (arith, nat_tests)

-- splitting joined parts at the separator gives the parts back, if none of them has the separator
pub parts_back : (c : ℕ) (w : List ℕ) (ws : List (List ℕ))
    → list_all (λ v. list_all (λ b. not (b == c)) v) (w ∷ ws) ≡ true
    → slice_split (λ b. b == c) (join_with_byte c (w ∷ ws)) ≡ w ∷ ws
parts_back c w [] h =
    ap (λ (t : List ℕ). slice_split (λ b. b == c) t) (sym (append-nil w))
    ∙ part (λ b. b == c) w [] (and_parts _ _ h).0 refl
parts_back c w (v ∷ ws) h =
    part (λ b. b == c) w (c ∷ join_with_byte c (v ∷ ws)) (and_parts _ _ h).0 (same_byte c)
    ∙ ap (λ (ts : List (List ℕ)). w ∷ ts) (rw (same_byte c) (parts_back c v ws (and_parts _ _ h).1))

no_space : (b : ℕ) → is_clean_byte b ≡ true → not (b == 32) ≡ true
no_space b h = (and_parts _ _ h).1

no_newline : (b : ℕ) → is_clean_byte b ≡ true → not (b == 10) ≡ true
no_newline b h = (and_parts _ _ h).0

-- splitting a line of a report gives its words back
pub words_back : (w : List ℕ) (ws : List (List ℕ)) → is_line (w ∷ ws) ≡ true
    → words (join_with_byte 32 (w ∷ ws)) ≡ w ∷ ws
words_back w ws h =
    parts_back 32 w ws
    (all_weaker is_clean (λ v. list_all (λ b. not (b == 32)) v)
    (λ v k. all_weaker is_clean_byte (λ b. not (b == 32)) no_space v k) (w ∷ ws) h)

-- a line has no newline
pub flat_words : (ws : List (List ℕ)) → list_all is_clean ws ≡ true
    → list_all (λ b. not (b == 10)) (join_with_byte 32 ws) ≡ true
flat_words [] h = refl
flat_words (w ∷ []) h = all_weaker is_clean_byte (λ b. not (b == 10)) no_newline w (and_parts _ _ h).0
flat_words (w ∷ v ∷ ws) h =
    rw (
      list_all-append (λ b. not (b == 10)) w (32 ∷ join_with_byte 32 (v ∷ ws)),
      all_weaker is_clean_byte (λ b. not (b == 10)) no_newline w (and_parts _ _ h).0,
    )
    (flat_words (v ∷ ws) (and_parts _ _ h).1)

-- a line without newlines is split off the text
pub line_split : (text rest : List ℕ) → list_all (λ b. not (b == 10)) text ≡ true
    → lines ((text ++ 10 ∷ []) ++ rest) ≡ text ∷ lines rest
line_split text rest flat = ap lines (append_assoc text (10 ∷ []) rest)
    ∙ part (λ b. b == 10) text (10 ∷ rest) flat refl

-- splitting a report gives its lines back, and an empty line after the last newline
pub lines_back : (ls : List (List (List ℕ))) → list_all is_line ls ≡ true
    → map words (lines (text_of ls)) ≡ ls ++ ([] ∷ []) ∷ []
lines_back [] h = refl
lines_back ([] ∷ ls) h = absurd (false≢true h)
lines_back ((w ∷ ws) ∷ ls) h =
    ap (λ (ts : List (List ℕ)). map words ts)
    (line_split (join_with_byte 32 (w ∷ ws)) (text_of ls) (flat_words (w ∷ ws) (and_parts _ _ h).0))
    ∙ ap (λ (l : List (List ℕ)). l ∷ map words (lines (text_of ls))) (words_back w ws (and_parts _ _ h).0)
    ∙ ap (λ (more : List (List (List ℕ))). (w ∷ ws) ∷ more) (lines_back ls (and_parts _ _ h).1)

-- two reports with the same text are equal
pub text_tells : (a b : List (List (List ℕ))) → list_all is_line a ≡ true → list_all is_line b
    ≡ true → text_of a ≡ text_of b → a ≡ b
text_tells a b h k e =
    append_cancel_right a b (([] ∷ []) ∷ [])
    (sym (lines_back a h) ∙ ap (λ (t : List ℕ). map words (lines t)) e ∙ lines_back b k)
