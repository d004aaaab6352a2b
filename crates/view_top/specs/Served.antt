-- What a status says about the input, the page and the note.
use Rattle.std.specs.Prelude.{◌≡◌, ℕ, ◌+◌, ◌<◌, ◌≤◌, ◌⊎◌, ◌↔◌, List, length, Option, IsSomeAnd, Some, Result, Ok, Err, ⊤}
use Rattle.std.specs.Io.KnownBytes.{Appends}
use Rattle.ima_io.specs.Bytes.{TookPart}
use Rattle.ima_io.specs.Counts.{Rose}
use Rattle.view_top.specs.Answer.{Answer, Page, BadLine, NoPlace, page_in, refusal_in}
use Rattle.view_top.specs.Limits.{most_input}
use Rattle.view_top.specs.Statuses as exit
use Rattle.view_top.specs.declared.not_done.NotDone.{NotDone}
use Rattle.view_top.specs.declared.not_done.NotDone.TheVariants as not_done

-- the number is a status that `serve_view` may return
abbrev pub IsStatus : ℕ → Type 0
IsStatus status =
    (status ≡ exit.done) ⊎ (status ≡ exit.usage) ⊎ (status ≡ exit.refused)
    ⊎ (status ≡ exit.no_place) ⊎ (status ≡ exit.read_fault) ⊎ (status ≡ exit.write_fault)
    ⊎ (status ≡ exit.too_long) ⊎ (status ≡ exit.out_of_memory)

-- a status that is returned only if the input was read to its end
abbrev pub IsPastReading : ℕ → Type 0
IsPastReading status =
    (status ≡ exit.done) ⊎ (status ≡ exit.refused) ⊎ (status ≡ exit.no_place)
    ⊎ (status ≡ exit.write_fault)

-- the status for an answer
abbrev pub status_by : Answer → ℕ
status_by (Page page) = exit.done
status_by (BadLine line) = exit.refused
status_by NoPlace = exit.no_place

-- the answer is a page, which was written whole
abbrev pub WroteWhole : Answer → Option (List ℕ) → Option (List ℕ) → Type 0
WroteWhole answer old new = IsSomeAnd (page_in answer) (Appends old new)

-- the answer is a page, of which a proper prefix was written
abbrev pub WrotePart : Answer → Option (List ℕ) → Option (List ℕ) → Type 0
WrotePart answer old new = IsSomeAnd (page_in answer) (TookPart old new)

-- The status fits the answer to the input. The output's sink had taken `old` before and has taken
-- `new` after, and `told` says of a line that the note has it.
pub record Serves (answer : Answer) (input : List ℕ) (status : ℕ) (old new : Option (List ℕ))
    (told : List ℕ → Type 0) : Type 0 where
  -- the source is asked for at most one byte more than an input may have
  pub asked : length input ≤ most_input + 1
  pub too_long : (status ≡ exit.too_long) ↔ (most_input < length input)
  -- what the output's sink has taken
  pub written : status ≡ exit.done → WroteWhole answer old new
  pub written_in_part : status ≡ exit.write_fault → WrotePart answer old new
  -- the input isn't as many reports as the words ask for, and the note has the line that says so
  pub refused : status ≡ exit.refused → IsSomeAnd (refusal_in answer) told
  pub no_place : status ≡ exit.no_place → answer ≡ NoPlace

-- the same facts as in `Serves`, by cases on the result
abbrev pub Performed : Answer → Option (List ℕ) → Option (List ℕ) → Result (Unit {0}) NotDone
    → Type 0
Performed answer old new (Ok _) = WroteWhole answer old new
Performed answer old new (Err not_done.WriteFault) = WrotePart answer old new
Performed answer old new (Err (not_done.Refused line)) = refusal_in answer ≡ Some line.items
Performed answer old new (Err not_done.NoPlace) = answer ≡ NoPlace
Performed answer old new (Err _) = ⊤

-- the sink took the line, or its count of faults rose and it took a prefix of the line
abbrev pub Told : ℕ → ℕ → Option (List ℕ) → Option (List ℕ) → List ℕ → Type 0
Told before after old new line = Appends old new line ⊎ (Rose before after × TookPart old new line)
