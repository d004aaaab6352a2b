-- the places that the events so far name are noted
use Rattle.std.proofs.Common.{◌≡◌, ℕ, take}
use Rattle.kernel_read.specs.Places.{HasShape, calls_in, cell, noted, reads}
use Rattle.run_laws.specs.kernel_reads.Reads.{place_of_call}
use Rattle.kernel_read.proofs.places.note_journal.Given as goal

abbrev pub invariant-loop-event : goal.invariant-loop-event
invariant-loop-event l = record {
  shape : HasShape (calls_in l.tasks) l.rows;
  cells : (n k : ℕ) → cell l.rows n k ≡ noted (reads (calls_in l.tasks) n k l.inode)
      (cell l.initial.rows n k) (place_of_call n k (take l.event-index l.journal));
}
