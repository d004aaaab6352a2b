-- What a run has made tells whether a turn has moved its task.
use Rattle.std.proofs.Common.{ap, refl}
use Rattle.report_text.specs.model.Rounds.{moves}
use Rattle.report_text.specs.model.Turns.{Moment, start_of}
use Rattle.order_outcomes.specs.Laws.{MadeTells}
use Rattle.order_outcomes.specs.Made.{made_of}
use Rattle.order_outcomes.specs.Orders.{left_at}
use Rattle.order_outcomes.proofs.Moving.{led_fits, start_fits, told_by}
use Rattle.order_outcomes.proofs.Idle.{turn_idle}

pub tells : MadeTells
tells scene turns m n leads = (
  (λ same. told_by scene m n
      (led_fits scene turns (start_of scene) m (start_fits scene) leads).0
      (moves scene m n) refl same),
  (λ still. ap (λ (x : Moment). made_of (left_at scene x)) (turn_idle scene m n still)),
)
