-- The words of the command line.
use Rattle.std.specs.Prelude.{◌≡◌, ℕ, ◌==◌, nat_lt, List, [], ◌∷◌, length, Option, Some, None, IsSome, Result, Ok, Err, option_and_then, option_map, if◌then◌else◌}
use Rattle.std.specs.List.{slice_split}
use Rattle.order_runs.specs.outcomes.reports.model.events.forms.Numbers.{short_number_of}
use Rattle.order_top.specs.Limits.{most_first, most_moments, most_named}
use Rattle.order_top.specs.declared.not_done.NotDone.{NotDone}
use Rattle.order_top.specs.declared.not_done.NotDone.TheVariants.{OutOfMemory, Usage}
use Rattle.order_top.specs.declared.words.Asked.{Asked}

-- what the words ask for: at most so many moments, and the orders that begin with these turns
pub record AskedValue : Type 0 where
  pub most : ℕ
  pub first : List ℕ

abbrev pub asked_value : Asked → AskedValue
asked_value asked = record { most = asked.most; first = asked.first.items }

-- ---- numbers

abbrev pub if_positive : ℕ → Option ℕ
if_positive n = if nat_lt 0 n then Some n else None

-- the number that a word names: from 1 to 10,000,000, in digits without a leading zero
abbrev pub number_of : List ℕ → Option ℕ
number_of word = option_and_then if_positive (short_number_of 10 most_named word)

-- ---- turns

-- the number of a task, which the script needn't have
abbrev pub task_of : List ℕ → Option ℕ
task_of digits = short_number_of 10 0xffff_ffff digits

abbrev pub tasks_of : List (List ℕ) → Option (List ℕ)
tasks_of [] = Some []
tasks_of (w ∷ ws) = option_and_then (λ n. option_map (λ ns. n ∷ ns) (tasks_of ws)) (task_of w)

-- the parts of a word between dots
abbrev pub dotted : List ℕ → List (List ℕ)
dotted word = slice_split (λ b. b == 46) word

-- the turns that a word names, by the numbers of their tasks joined by dots; none if it is empty
abbrev pub turns_of : List ℕ → Option (List ℕ)
turns_of [] = Some []
turns_of (c ∷ cs) =
    if nat_lt most_first (length (dotted (c ∷ cs))) then None else tasks_of (dotted (c ∷ cs))

-- ---- all words

abbrev pub asking : ℕ → List ℕ → AskedValue
asking most first = record { most = most; first = first }

abbrev pub asked_by : List ℕ → List ℕ → Option AskedValue
asked_by word first =
    option_and_then (λ n. option_map (asking n) (turns_of first)) (number_of word)

-- what the words ask for, if they are none, a number, or a number and first turns
abbrev pub asked_of : List (List ℕ) → Option AskedValue
asked_of [] = Some (asking most_moments [])
asked_of (word ∷ []) = asked_by word []
asked_of (word ∷ first ∷ []) = asked_by word first
asked_of _ = None

-- what the words ask for was found, or they ask for nothing, or memory ran out
abbrev pub IsAsked : Option AskedValue → Result Asked NotDone → Type 0
IsAsked o (Ok a) = o ≡ Some (asked_value a)
IsAsked o (Err Usage) = o ≡ None
IsAsked o (Err OutOfMemory) = IsSome o
IsAsked o (Err _) = ⊥
