-- The answers to the buffers of a caller.
use Rattle.std.specs.Prelude.{◌≡◌, ℕ, ◌<◌, List, [], ◌∷◌, Option, Some, None, slice_get}
use Rattle.std.specs.List.{AllByRecursion, flat_map}
use Rattle.script_text.specs.steps.hashes.declared.algo.Algo.{Algo}
use Rattle.script_text.specs.steps.templates.Same.{place_of_same}
use Rattle.script_text.specs.steps.templates.declared.entry.Entry.{Entry}
use Rattle.script_text.specs.steps.templates.declared.entry.Placed.{Placed}
use Rattle.script_text.specs.steps.templates.declared.entry.Placed.TheVariants as placed
use Rattle.buffer_entries.specs.Entries.{entry_for}
use Rattle.buffer_text.specs.Text.{Buffer}
use Rattle.buffer_measure.specs.declared.answer.Answer.{Answer}
use Rattle.buffer_measure.specs.declared.answer.Answer.TheVariants.{Skipped, Added, Already}

-- the answer to the buffer of a caller whose buffers extend this register, by the list: its entry
-- is at the place where it was added, or the first that is the same is at an earlier one
abbrev pub IsAnswer : Algo → List Entry → Option ℕ → Buffer → Answer → Type 0
IsAnswer hash list None line Skipped = Unit {0}
IsAnswer hash list (Some pcr) line (Added place) =
    slice_get list place ≡ Some (entry_for hash pcr line)
IsAnswer hash list (Some pcr) line (Already place) =
    place_of_same list (entry_for hash pcr line) ≡ Some place
IsAnswer _ _ _ _ _ = ⊥

abbrev pub answer_of : Placed → Answer
answer_of (placed.Added place) = Added place
answer_of (placed.Already place) = Already place

-- the place that an answer names, if it names one
abbrev pub named : Answer → List ℕ
named Skipped = []
named (Added place) = place ∷ []
named (Already place) = place ∷ []

-- the place at which the answer's entry was added
abbrev pub added : Answer → List ℕ
added (Added place) = place ∷ []
added _ = []

abbrev pub named_in : List Answer → List ℕ
named_in answers = flat_map named answers

abbrev pub added_in : List Answer → List ℕ
added_in answers = flat_map added answers

-- a place that an answer names is below all that later answers add
abbrev pub Rises : List Answer → Type 0
Rises [] = Unit {0}
Rises (a ∷ later) =
    AllByRecursion (λ low. AllByRecursion (λ high. low < high) (added_in later)) (named a)
    × Rises later
