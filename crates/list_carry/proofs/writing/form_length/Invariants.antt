-- The length of the header and of the records passed so far.
use Rattle.std.proofs.Common.{◌≡◌, take}
use Rattle.carry_form.specs.Form.{form_length}
use Rattle.list_carry.proofs.writing.form_length.Given as goal

abbrev pub invariant-loop-e : goal.invariant-loop-e
invariant-loop-e l = l.total ≡ form_length (take l.e-index l.list)
