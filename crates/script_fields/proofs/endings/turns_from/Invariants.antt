use Rattle.std.proofs.Common.{◌≡◌, length}
use Rattle.text_forms.specs.Words.{words}
use Rattle.script_fields.specs.TaskFields.{turns_from}
use Rattle.script_fields.proofs.Schedules.{onto}
use Rattle.script_fields.proofs.endings.turns_from.Given as goal

-- the turns so far, followed by those of the remaining words
abbrev pub invariant-loop-word : goal.invariant-loop-word
invariant-loop-word l = onto l.turns.items (turns_from l.tasks (words l.rest))
    ≡ turns_from l.tasks (words l.numbers)

abbrev pub decreases-loop-word : goal.decreases-loop-word
decreases-loop-word l = length l.rest
