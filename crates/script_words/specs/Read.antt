-- A text of lines, each ended by a newline, and its last line.
use Rattle.std.specs.Prelude.{ℕ, ◌+◌, Bool, ◌&&◌, not, List, [], ◌∷◌, Result, Ok, Err, if◌then◌else◌}
use Rattle.text_forms.specs.Lines.{◌>>=◌, at_line, lines}
use Rattle.text_forms.specs.Tokens.{is_filled}
use Rattle.script_words.specs.declared.fault.Fault.{Fault}
use Rattle.script_words.specs.declared.fault.LineCause.{LineCause}
use Rattle.script_words.specs.declared.fault.LineCause.TheVariants as cause
use Rattle.script_words.specs.Line.{is_skipped}

abbrev pub fault_at : {C : Type 0} → ℕ → C → Fault C
fault_at n c = record { line = n; cause = c }

-- empty lines and comments leave the state as it was
abbrev pub step_over : {S C : Type 0} → (S → List ℕ → Result S C) → S → List ℕ → Result S C
step_over step s line = if is_skipped line then Ok s else step s line

-- the state at the end, if the text may end in it and nothing follows the last newline
abbrev pub at_end : {S C : Type 0} → C → (S → Bool) → ℕ → S → List ℕ → Result S (Fault C)
at_end no_end ends n s rest =
    if ends s && not (is_filled rest) then Ok s else Err (fault_at n no_end)

-- the state that lines make of s, if the first of them has number n and the last isn't ended by a
-- newline; `no_end` is the cause if the text may not end there
abbrev pub from_by : {S C : Type 0} → C → (S → List ℕ → Result S C) → (S → Bool) → ℕ → S
    → List (List ℕ) → Result S (Fault C)
from_by no_end step ends n s [] = Ok s
from_by no_end step ends n s (rest ∷ []) = at_end no_end ends n s rest
from_by no_end step ends n s (line ∷ next ∷ ls) =
    at_line fault_at n (step_over step s line)
    >>= λ t. from_by no_end step ends (n + 1) t (next ∷ ls)

-- the state that a text makes of `start`, or its first bad line with the first cause that holds of
-- it
abbrev pub text_by : {S C : Type 0} → C → (S → List ℕ → Result S C) → (S → Bool) → S → List ℕ
    → Result S (Fault C)
text_by no_end step ends start text = from_by no_end step ends 1 start (lines text)

-- ---- grammars without causes of their own

abbrev pub from_ended : {S : Type 0} → (S → List ℕ → Result S LineCause) → (S → Bool) → ℕ → S
    → List (List ℕ) → Result S (Fault LineCause)
from_ended = from_by cause.NoEnd

abbrev pub text_of : {S : Type 0} → (S → List ℕ → Result S LineCause) → (S → Bool) → S → List ℕ
    → Result S (Fault LineCause)
text_of = text_by cause.NoEnd
