-- the places that the journals so far name are noted
use Rattle.std.proofs.Common.{◌≡◌, ℕ, take}
use Rattle.kernel_read.specs.Places.{HasShape, calls_in, cell, placed_in, read_at}
use Rattle.kernel_read.proofs.places.places.Given as goal

abbrev pub invariant-loop-number : goal.invariant-loop-number
invariant-loop-number l = record {
  shape : HasShape (calls_in l.tasks) l.rows.items;
  cells : (n k : ℕ) → cell l.rows.items n k
      ≡ placed_in (take l.number l.inodes) n k (read_at (calls_in l.tasks) n k);
}
