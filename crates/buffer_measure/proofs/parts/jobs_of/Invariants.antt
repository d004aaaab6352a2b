-- The parts so far, which are full, and the one that is being filled have the entries so far.
use Rattle.std.proofs.Common.{◌≡◌, ◌+◌, ◌*◌, ◌≤◌, ◌⊎◌, ◌++◌, length}
use Rattle.std.specs.List.{flat_map}
use Rattle.buffer_measure.specs.Parts.{entries_in}
use Rattle.buffer_measure.proofs.parts.jobs_of.Given as goal

abbrev pub invariant-loop-entry : goal.invariant-loop-entry
invariant-loop-entry l = record {
  entries : flat_map entries_in l.jobs.items ++ l.job.items ≡ l.yielded;
  sum : length l.jobs.items * l.size + length l.job.items ≡ length l.yielded;
  most : length l.job.items ≤ l.size;
  some : (length l.jobs.items ≡ 0) ⊎ (1 ≤ length l.job.items);
}
