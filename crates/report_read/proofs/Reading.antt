-- One line after another is taken from a text.
use Rattle.std.proofs.Common.{◌≡◌, ℕ, ◌+◌, ◌==◌, Bool, true, false, cond, List, [], ◌∷◌, length, Option, Some, None, Result, refl, sym, subst, arith}
use Rattle.std.specs.Prelude.{ok_or, option_map}
use Rattle.report_text.specs.model.events.forms.Lines.{◌>>=◌, lines}
use Rattle.report_text.specs.model.events.forms.Tokens.{is_filled}
use Rattle.report_words.specs.script_lines.Line.{cut}
use Rattle.report_words.proofs.about_lines.Reading.{some_line}
use Rattle.report_draft.specs.declared.fault.LineErr.{LineErr}
use Rattle.report_draft.specs.declared.fault.LineErr.TheVariants as err
use Rattle.report_draft.specs.Draft.{Draft}
use Rattle.report_draft.specs.Makes.{Fails, LineFails, err_at}
use Rattle.report_read.specs.Read.{read_from, with_line}

-- ---- lengths of the parts

abbrev Measures : List ℕ → Option (List ℕ × List ℕ) → Type 0
Measures xs None = Unit {0}
Measures xs (Some p) = length xs ≡ length p.0 + (1 + length p.1)

cut_step : (b : ℕ) (bs : List ℕ) (hit : Bool) (r : Option (List ℕ × List ℕ)) → Measures bs r
    → Measures (b ∷ bs)
    (cond hit (Some ([], bs)) (option_map (λ (p : List ℕ × List ℕ). (b ∷ p.0, p.1)) r))
cut_step b bs true r h = omega arith
cut_step b bs false None h = tt
cut_step b bs false (Some p) h = omega (arith, h)

cut_measures : (c : ℕ) (xs : List ℕ) → Measures xs (cut c xs)
cut_measures c [] = tt
cut_measures c (b ∷ bs) = cut_step b bs (b == c) (cut c bs) (cut_measures c bs)

-- a text that is cut is as long as its parts and the separator
pub cut_length : (c : ℕ) (xs front back : List ℕ) → Some (front, back) ≡ cut c xs
    → length xs ≡ length front + (1 + length back)
cut_length c xs front back h = subst (Measures xs) (sym h) (cut_measures c xs)

-- ---- reading

-- a line that isn't the last makes a draft, from which the other lines go on
pub one_more : (begin n : ℕ) (d : Draft) (line : List ℕ) (others : List (List ℕ))
    → is_filled others ≡ true
    → read_from begin n d (line ∷ others)
    ≡ (ok_or (with_line begin d line) n
    >>= λ t. read_from (begin + (length line + 1)) (n + 1) t others)
one_more begin n d line [] h = absurd (cc h)
one_more begin n d line (next ∷ ls) h = refl

module _ (begin n : ℕ) (d : Draft) (line after rest : List ℕ) (whole : Result Draft ℕ)
    (cut_off : lines rest ≡ line ∷ lines after)
    (so_far : read_from begin n d (lines rest) ≡ whole) where
  here : (ok_or (with_line begin d line) n
      >>= λ t. read_from (begin + (length line + 1)) (n + 1) t (lines after)) ≡ whole
  here = rw (cut_off, one_more begin n d line (lines after) (some_line after)) at so_far

  -- reading goes on after a line that makes the draft t
  pub goes_on : (t : Draft) → with_line begin d line ≡ Some t
      → read_from (begin + (length line + 1)) (n + 1) t (lines after) ≡ whole
  goes_on t good = rw good at here

  -- a bad line stops the reading
  pub stops : (e : LineErr) → LineFails e (with_line begin d line) → Fails (err_at n e) whole
  stops err.Refused bad = sym (rw bad at here)
  stops err.OutOfMemory bad = tt
