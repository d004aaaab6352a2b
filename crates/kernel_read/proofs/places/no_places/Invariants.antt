-- there is an empty row for each task so far
use Rattle.std.proofs.Common.{◌≡◌, ℕ, None, take}
use Rattle.kernel_read.specs.Places.{HasShape, calls_in, cell}
use Rattle.kernel_read.proofs.places.no_places.Given as goal

abbrev pub invariant-loop-task : goal.invariant-loop-task
invariant-loop-task l = record {
  shape : HasShape (calls_in (take l.task-index l.tasks)) l.rows.items;
  none : (n k : ℕ) → cell l.rows.items n k ≡ None;
}
