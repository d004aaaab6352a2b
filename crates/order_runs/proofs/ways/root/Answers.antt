use Rattle.std.proofs.Common.{◌≡◌, ◌≤◌, List, ℕ, Option, None, length, sym, subst}
use Rattle.std.specs.Prelude.{MatchOption}
use Rattle.order_outcomes.specs.Orders.{moment_after}
use Rattle.order_outcomes.specs.scripts.Limits.{most_turns}
use Rattle.order_runs.specs.Points.{IsPointOf}
use Rattle.order_runs.specs.declared.points.Point.{Point}
use Rattle.order_runs.proofs.Stepping.{kept_first}
use Rattle.order_runs.proofs.ways.root.Goals as goal

pub reached-requires : goal.reached-requires
reached-requires c =
    subst (λ (turns : List ℕ). length turns ≤ most_turns) (sym c.as_slice.ensures.value) c.requires

pub returns-in-Some : goal.returns-in-Some
returns-in-Some c =
    let play = c.args.part.now.play in
    kept_first c.args.part.now
    (record {
      counted = record { order = c.new-order.result; count = 1 };
      point = c.in-Some.point;
    })
    (λ i. record { order = c.new-order.ensures i; count = 1 })
    (subst (λ (turns : List ℕ). IsPointOf play turns c.in-Some.point) c.as_slice.ensures.value
    (subst (λ (o : Option Point). MatchOption o (moment_after play c.as_slice.result.now ≡ None)
    (IsPointOf play c.as_slice.result.now)) c.in-Some.is c.in_ok-point.ensures))

pub returns-in-None : goal.returns-in-None
returns-in-None c =
    let play = c.args.part.now.play in
    subst (λ (turns : List ℕ). moment_after play turns ≡ None) c.as_slice.ensures.value
    (subst (λ (o : Option Point). MatchOption o (moment_after play c.as_slice.result.now ≡ None)
    (IsPointOf play c.as_slice.result.now)) c.in-None.is c.in_ok-point.ensures)
