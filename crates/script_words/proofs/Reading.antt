-- One line after another is taken from a text.
use Rattle.std.proofs.Common.{◌≡◌, ℕ, ◌+◌, ◌==◌, Bool, true, false, List, [], ◌∷◌, length, Result, Ok, refl, sym, arith}
use Rattle.std.proofs.lemmas.List.Splits.{length-slice_split}
use Rattle.text_forms.specs.Lines.{◌>>=◌, at_line, lines}
use Rattle.text_forms.specs.Tokens.{is_filled}
use Rattle.script_words.specs.declared.fault.Fault.{Fault}
use Rattle.script_words.specs.declared.fault.LineErr.{LineErr}
use Rattle.script_words.specs.declared.fault.LineErr.TheVariants as err
use Rattle.script_words.specs.Gives.{Fails, LineFails, err_at}
use Rattle.script_words.specs.Line.{is_skipped}
use Rattle.script_words.specs.Read.{fault_at, from_by, step_over}

long_filled : {X : Type 0} (xs : List X) (n : ℕ) → length xs ≡ n + 1 → is_filled xs ≡ true
long_filled [] n h = absurd (omega (arith, h))
long_filled (x ∷ xs) n h = refl

-- each text has a last line
pub some_line : (text : List ℕ) → is_filled (lines text) ≡ true
some_line text = long_filled _ _ (length-slice_split (λ b. b == 10) text)

module _ {S C : Type 0} (no_end : C) (step : S → List ℕ → Result S C) (ends : S → Bool) where
  -- a line that isn't the last makes a state, from which the other lines go on
  pub one_more : (n : ℕ) (s : S) (line : List ℕ) (others : List (List ℕ)) → is_filled others ≡ true
      → from_by no_end step ends n s (line ∷ others)
      ≡ (at_line fault_at n (step_over step s line) >>= λ t. from_by no_end step ends (n + 1) t others)
  one_more n s line [] h = absurd (cc h)
  one_more n s line (next ∷ ls) h = refl

  module _ (n : ℕ) (s : S) (line after rest : List ℕ) (whole : Result S (Fault C)) (cut_off : lines rest
      ≡ line ∷ lines after)
      (so_far : from_by no_end step ends n s (lines rest) ≡ whole) where
    here : (at_line fault_at n (step_over step s line) >>= λ t. from_by no_end step ends (n + 1) t
        (lines after)) ≡ whole
    here = rw (cut_off, one_more n s line (lines after) (some_line after)) at so_far

    -- reading goes on after a skipped line, and after one that makes the state t
    pub goes_over : is_skipped line ≡ true → from_by no_end step ends (n + 1) s (lines after) ≡ whole
    goes_over skipped = rw skipped at here

    pub goes_on : (t : S) → is_skipped line ≡ false → step s line ≡ Ok t
        → from_by no_end step ends (n + 1) t (lines after) ≡ whole
    goes_on t read good = rw (read, good) at here

    -- a bad line stops the reading
    pub stops : (e : LineErr C) → is_skipped line ≡ false → LineFails e (step s line)
        → Fails (err_at n e) whole
    stops (err.Refused c) read bad = sym (rw (read, bad) at here)
    stops err.OutOfMemory read bad = tt
