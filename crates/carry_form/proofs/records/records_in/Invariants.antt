-- The entries so far and those of the remaining records are the whole list.
use Rattle.std.proofs.Common.{◌≡◌}
use Rattle.carry_form.specs.Reading.{records_in}
use Rattle.carry_form.proofs.RecordLemmas.{with_front}
use Rattle.carry_form.proofs.records.records_in.Given as goal

abbrev pub invariant-loop-left : goal.invariant-loop-left
invariant-loop-left l =
    with_front l.list.items (records_in l.left l.rest) ≡ records_in l.count l.bytes

abbrev pub decreases-loop-left : goal.decreases-loop-left
decreases-loop-left l = l.left
