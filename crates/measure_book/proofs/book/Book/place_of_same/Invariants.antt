-- The candidate is in the bucket, and the walk from it on leads to the result.
use Rattle.std.proofs.Common.{◌≡◌, length}
use Rattle.measure_book.specs.Key.{stands_at}
use Rattle.measure_book.specs.Places.{last_below}
use Rattle.measure_book.proofs.Finding.{IsCandidate, last_through, steps_left}
use Rattle.measure_book.proofs.book.Book.place_of_same.Given as goal

abbrev pub invariant-loop-candidate : goal.invariant-loop-candidate
invariant-loop-candidate l = record {
  stands : IsCandidate l.self-inside.places l.key l.candidate;
  walk : last_through (stands_at l.self-inside.list.list l.e) l.candidate
      ≡ last_below (stands_at l.self-inside.list.list l.e) (length l.self-inside.list.list);
}

abbrev pub decreases-loop-candidate : goal.decreases-loop-candidate
decreases-loop-candidate l = steps_left l.candidate
