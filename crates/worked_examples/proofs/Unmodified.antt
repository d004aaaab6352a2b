-- The examples of grants for a file that was written.
use Rattle.std.proofs.Common.{refl}
use Rattle.inode_events.proofs.Deciding.{legal_by}
use Rattle.worked_examples.specs.Shared.{enforced}
use Rattle.worked_examples.specs.Unmodified.{UnmodifiedExamples, closed_before, hashed_after, hashed_before, written_between}

-- the examples, together
pub examples : UnmodifiedExamples
examples = record {
  closed_before_legal = legal_by enforced closed_before refl refl;
  written_between_legal = legal_by enforced written_between refl refl;
  hashed_after_legal = legal_by enforced hashed_after refl refl;
  hashed_before_legal = legal_by enforced hashed_before refl refl;
  finished = refl;
  overtaken = refl;
  in_force_after = refl;
  in_force_before = refl;
  taken = refl;
  outdated = refl;
}
