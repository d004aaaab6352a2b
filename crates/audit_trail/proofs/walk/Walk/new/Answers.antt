use Rattle.std.proofs.Common.{refl}
use Rattle.audit_trail.proofs.Stepping.{walk_begins}
use Rattle.audit_trail.proofs.walk.Walk.new.Goals as goal

pub returns : goal.returns
returns c = λ i. walk_begins i _ c.new-content.ensures c.new-attrs.ensures refl refl refl
