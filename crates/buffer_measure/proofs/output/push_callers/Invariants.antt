-- the lines of the callers that are left are still to come
use Rattle.std.proofs.Common.{◌≡◌, ◌++◌, drop}
use Rattle.script_text.specs.events.forms.Words.{text_of}
use Rattle.buffer_measure.specs.Print.{all_caller_lines}
use Rattle.buffer_measure.proofs.output.push_callers.Given as goal

abbrev pub invariant-loop-number : goal.invariant-loop-number
invariant-loop-number l =
    l.out.items ++ text_of (all_caller_lines l.number (drop l.number l.callers))
    ≡ l.fn.out.items ++ text_of (all_caller_lines 0 l.callers)
