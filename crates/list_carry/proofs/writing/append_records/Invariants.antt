-- The records of the entries passed so far were appended.
use Rattle.std.proofs.Common.{◌≡◌, ◌++◌, take}
use Rattle.carry_form.specs.Form.{records_of}
use Rattle.list_carry.proofs.writing.append_records.Given as goal

abbrev pub invariant-loop-e : goal.invariant-loop-e
invariant-loop-e l = l.out.items ≡ l.initial.out.items ++ records_of (take l.e-index l.list)
