use Rattle.std.proofs.Common.{List, Option, slice_get, subst, ℕ}
use Rattle.std.specs.Prelude.{IfSome, IsSomeAnd}
use Rattle.order_runs.specs.Steps.{CanMeet}
use Rattle.order_runs.specs.declared.ways.Way.{Way}
use Rattle.order_runs.proofs.ways.meet.Goals as goal

pub join_at-requires : goal.join_at-requires
join_at-requires c =
    subst (λ (ways : List Way). IsSomeAnd (slice_get ways c.in-Some.place)
    (λ (w : Way). CanMeet w c.args.longer.now)) c.as_slice.ensures.value
    (subst (λ (o : Option ℕ). IfSome o (λ place. IsSomeAnd (slice_get c.as_slice.result.now place)
    (λ (w : Way). CanMeet w c.args.longer.now))) c.in-Some.is c.in_ok-place.ensures)
