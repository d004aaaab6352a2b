use Rattle.view_journal.proofs.HashedLemmas.{as_hashed_is_sound}
use Rattle.view_journal.proofs.law.as_hashed_is_sound.Goals as goal

pub returns : goal.returns
returns c = as_hashed_is_sound
