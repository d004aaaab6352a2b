-- The parts so far were made, and their bytes were appended.
use Rattle.std.proofs.Common.{◌≡◌, ◌++◌}
use Rattle.std.specs.List.{AllByRecursion, flat_map}
use Rattle.buffer_measure.specs.Parts.{IsMade, part_bytes}
use Rattle.buffer_measure.proofs.parts.push_parts.Given as goal

abbrev pub invariant-loop-part : goal.invariant-loop-part
invariant-loop-part l = record {
  made : AllByRecursion IsMade l.yielded;
  bytes : l.out ≡ l.fn.out ++ flat_map part_bytes l.yielded;
}
