-- The answer of a command's own call, before it is written.
use Rattle.std.specs.Prelude.{◌≡◌, ℕ, List, Result, Ok, Err, Option, Some, None, ⊤}
use Rattle.ima_top.specs.declared.not_done.NotDone.{NotDone}
use Rattle.ima_top.specs.declared.not_done.NotDone.TheVariants.{Refused, OutOfMemory}

-- either an output, and nothing refuses the input; or the line that refuses it; or out of memory
abbrev pub Answers : {A : Type 0} → Result A NotDone → Option (List ℕ) → (A → Type 0) → Type 0
Answers (Ok answer) refusal IsOutput = (refusal ≡ None) × IsOutput answer
Answers (Err (Refused line)) refusal IsOutput = refusal ≡ Some line.items
Answers (Err OutOfMemory) refusal IsOutput = ⊤
Answers (Err _) refusal IsOutput = ⊥
