use Rattle.std.proofs.Common.{refl}
use Rattle.std.proofs.lemmas.List.{drop_min, take_rest}
use Rattle.ima_appraise.proofs.appraisal.has_digest.Goals as goal

pub returns : goal.returns
returns c = rw (
  c.starts_with.ensures.value,
  take_rest,
  c.min.ensures,
  drop_min,
  c.as_slice.ensures.bytes,
) refl
