-- the lines of the answers that are left are still to come
use Rattle.std.proofs.Common.{◌≡◌, ◌++◌, drop}
use Rattle.script_text.specs.events.forms.Words.{text_of}
use Rattle.buffer_measure.specs.Print.{answer_lines}
use Rattle.buffer_measure.proofs.output.push_answers.Given as goal

abbrev pub invariant-loop-number : goal.invariant-loop-number
invariant-loop-number l =
    l.out.items ++ text_of (answer_lines l.number (drop l.number l.answers))
    ≡ l.fn.out.items ++ text_of (answer_lines 0 l.answers)
