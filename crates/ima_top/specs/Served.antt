-- What a status says about the input, the output and the note.
use Rattle.std.specs.Prelude.{◌≡◌, ℕ, ◌+◌, ◌<◌, ◌≤◌, ◌⊎◌, ◌↔◌, Bool, true, false, List, [], length, Option, None, Some, IfSome, IsSome, Result, Ok, Err, ⊤}
use Rattle.std.specs.Io.KnownBytes.{Appends, Consumes}
use Rattle.ima_io.specs.Bytes.{TookPart}
use Rattle.ima_io.specs.Counts.{Rose}
use Rattle.command_line.specs.declared.command.Command.{Command}
use Rattle.ima_top.specs.declared.not_done.NotDone.{NotDone}
use Rattle.ima_top.specs.declared.not_done.NotDone.TheVariants.{Refused, Stuck, WriteFault}
use Rattle.ima_top.specs.Statuses as exit
use Rattle.ima_top.specs.Limits.{most_input}
use Rattle.ima_top.specs.commands.Table.{IsOutput, refusal}

-- the number is a status that `serve` may return
abbrev pub IsStatus : ℕ → Type 0
IsStatus status =
    (status ≡ exit.done) ⊎ (status ≡ exit.usage) ⊎ (status ≡ exit.refused) ⊎ (status ≡ exit.stuck)
    ⊎ (status ≡ exit.read_fault) ⊎ (status ≡ exit.write_fault)
    ⊎ (status ≡ exit.too_long) ⊎ (status ≡ exit.out_of_memory)

-- a status that is returned only if the input was read to its end
abbrev pub IsPastReading : ℕ → Type 0
IsPastReading status =
    (status ≡ exit.done) ⊎ (status ≡ exit.refused) ⊎ (status ≡ exit.stuck)
    ⊎ (status ≡ exit.write_fault)

-- P holds of the input of a command. If the command reads, the input is what the source gave; if
-- not, it is empty. The source had the bytes `old` left before, and has `new` left after.
pub record OnInput (reads : Bool) (old new : Option (List ℕ)) (P : List ℕ → Type 0) : Type 0 where
  pub input : List ℕ
  pub given : reads ≡ true → Consumes old new input
  pub unread : reads ≡ false → input ≡ []
  pub holds : P input

-- the input of a command, if it is read to the end of a source that has `left` left
abbrev pub input_left : Bool → Option (List ℕ) → Option (List ℕ)
input_left true left = left
input_left false left = Some []

-- an output for the input was written whole
abbrev pub WroteWhole : Command → List ℕ → Bool → Option (List ℕ) → Option (List ℕ) → Type 0
WroteWhole command input stuck old new =
    (output : List ℕ) × IsOutput command input stuck output × Appends old new output

-- a proper prefix of an output for the input was written
abbrev pub WrotePart : Command → List ℕ → Option (List ℕ) → Option (List ℕ) → Type 0
WrotePart command input old new =
    (stuck : Bool) × ((output : List ℕ) × IsOutput command input stuck output
    × TookPart old new output)

-- The status fits the input of the command. The output's sink had taken `old` before and has taken
-- `new` after, and `told` says of a line that the note has it.
pub record Serves (command : Command) (input : List ℕ) (status : ℕ) (old new : Option (List ℕ))
    (told : List ℕ → Type 0) : Type 0 where
  -- the source is asked for at most one byte more than an input may have
  pub asked : length input ≤ most_input + 1
  pub too_long : (status ≡ exit.too_long) ↔ (most_input < length input)
  -- whether the input is in the command's grammar
  pub fits : (status ≡ exit.done) ⊎ (status ≡ exit.stuck) ⊎ (status ≡ exit.write_fault)
      → refusal command input ≡ None
  pub refused : status ≡ exit.refused → IsSome (refusal command input)
  -- what the output's sink has taken
  pub written : status ≡ exit.done → WroteWhole command input false old new
  pub written_stuck : status ≡ exit.stuck → WroteWhole command input true old new
  pub written_in_part : status ≡ exit.write_fault → WrotePart command input old new
  -- the line that refuses the input is on the note
  pub told_cause : status ≡ exit.refused → IfSome (refusal command input) told

-- the same facts as in `Serves`, by cases on the command's result
abbrev pub Performed : Command → List ℕ → Option (List ℕ) → Option (List ℕ)
    → Result (Unit {0}) NotDone → Type 0
Performed command input old new (Ok _) =
    (refusal command input ≡ None) × WroteWhole command input false old new
Performed command input old new (Err Stuck) =
    (refusal command input ≡ None) × WroteWhole command input true old new
Performed command input old new (Err WriteFault) =
    (refusal command input ≡ None) × WrotePart command input old new
Performed command input old new (Err (Refused line)) = refusal command input ≡ Some line.items
Performed command input old new (Err _) = ⊤

-- the sink took the line, or its count of faults rose and it took a prefix of the line
abbrev pub Told : ℕ → ℕ → Option (List ℕ) → Option (List ℕ) → List ℕ → Type 0
Told before after old new line = Appends old new line ⊎ (Rose before after × TookPart old new line)
