-- The command `label`: the values that a seal would write on the files of a script, or its first
-- bad line and the cause.
use Rattle.std.specs.Prelude.{◌≡◌, ℕ, List, Option, IsOkAnd}
use Rattle.script_text.specs.Grammar.{script_of}
use Rattle.label_text.specs.Labels.{label_answer}
use Rattle.ima_top.specs.commands.BadLine.{refusal_of}

-- the line that refuses an input that isn't a script
unfoldable pub label_refusal : List ℕ → Option (List ℕ)
label_refusal input = refusal_of (script_of input)

-- the output for a script is the lines of its files
unfoldable pub IsLabelOutput : List ℕ → List ℕ → Type 0
IsLabelOutput input output = IsOkAnd (script_of input) (λ script. output ≡ label_answer script)
