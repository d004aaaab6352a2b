-- Reading a text line by line: each line either turns the state before it into the next, or is
-- refused with a cause.
use Rattle.std.specs.Prelude.{◌≡◌, ℕ, Bool, not, ◌+◌, ◌==◌, List, [], ◌∷◌, ◌++◌, length, Result, Ok, Err, count_by}
use Rattle.std.specs.List.{list_all, slice_split}

-- the lines of a text; the part after the last newline is a line too, perhaps an empty one
abbrev pub lines : List ℕ → List (List ℕ)
lines text = slice_split (λ b. b == 10) text

-- the text has no newline
abbrev pub is_one_line : List ℕ → Bool
is_one_line text = list_all (λ b. not (b == 10)) text

abbrev pub newlines : List ℕ → ℕ
newlines text = count_by (λ b. b == 10) text

infixl 10 ◌>>=◌
abbrev pub ◌>>=◌ : {A B E : Type 0} → Result A E → (A → Result B E) → Result B E
(Ok x) >>= f = f x
(Err e) >>= f = Err e

-- a cause, combined with the number of its line, becomes a fault
abbrev pub at_line : {A C F : Type 0} → (ℕ → C → F) → ℕ → Result A C → Result A F
at_line fault n (Ok x) = Ok x
at_line fault n (Err cause) = Err (fault n cause)

-- the result of reading the lines from the state s on, if the first line has the number n: the last
-- state, or the first fault
abbrev pub from_lines : {S C F : Type 0} → (ℕ → C → F) → (S → List ℕ → Result S C) → ℕ → S
    → List (List ℕ) → Result S F
from_lines fault step n s [] = Ok s
from_lines fault step n s (l ∷ ls) = at_line fault n (step s l) >>= λ t. from_lines fault step
    (n + 1) t ls

-- f is the fault of the first bad line, if the first line has the number n: the lines before it
-- lead to a state, and from that state the line is refused
pub record IsFirstBad (S C F : Type 0) (fault : ℕ → C → F) (step : S → List ℕ → Result S C) (n : ℕ)
    (s : S) (ls : List (List ℕ)) (f : F) : Type 0 where
  pub before : List (List ℕ)
  pub line : List ℕ
  pub after : List (List ℕ)
  pub reached : S
  pub cause : C
  pub parts : ls ≡ before ++ line ∷ after
  pub good : from_lines fault step n s before ≡ Ok reached
  pub bad : step reached line ≡ Err cause
  pub is : f ≡ fault (n + length before) cause
