use Rattle.run_laws.proofs.shown.Sound.{sound_there}
use Rattle.run_laws.proofs.shown_is_sound.Goals as goal

pub returns : goal.returns
returns c = sound_there
