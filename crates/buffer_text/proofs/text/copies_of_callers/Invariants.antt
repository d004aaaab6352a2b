-- There are copies of the callers passed so far.
use Rattle.std.proofs.Common.{◌≡◌, take}
use Rattle.buffer_text.proofs.text.copies_of_callers.Given as goal

abbrev pub invariant-loop-caller : goal.invariant-loop-caller
invariant-loop-caller l = l.copies.items ≡ take l.caller-index l.callers
