use Rattle.std.proofs.Common.{refl}
use Rattle.buffer_measure.proofs.Alone.{alone_is}
use Rattle.buffer_measure.proofs.laws.runs_alone.Goals as goal

pub returns : goal.returns
returns c = λ t run is few. alone_is t run is t.callers refl few
