use Rattle.std.proofs.Common.{◌≡◌, ℕ, not, length, ap, subst, ◌∙◌, arith}
use Rattle.order_outcomes.specs.alike.Alike.{IsAlike}
use Rattle.order_outcomes.specs.Orders.{moved}
use Rattle.order_outcomes.specs.counts.Layers.{Spreads}
use Rattle.order_outcomes.specs.counts.Orders.{rests}
use Rattle.order_outcomes.specs.reports.model.Rounds.{numbers}
use Rattle.order_runs.specs.Steps.{begun, counted_ways}
use Rattle.order_runs.proofs.Stepping.{rests_more, spreads_more, with_kept}
use Rattle.order_runs.proofs.ways.spread.Goals as goal

pub loop-task-preserved : goal.loop-task-preserved
loop-task-preserved c =
    let part = c.args.part.now in
    let way = c.args.way.now in
    let n = c.loop-task.task in
    let longer = c.in_ok-longer.longer in
    let mid = c.loop-task.next.items in
    let k = c.requires.kept in
    record {
      spreads = λ m leads kept.
          spreads_more part way n m longer (c.in_ok-longer.ensures m leads)
          c.args.next.now.items mid c.add_longer.new.next.items (c.loop-task.invariant.kept kept)
          c.in_ok-any.ensures.ways (c.loop-task.invariant.spreads m leads kept);
      kept = λ kept.
          with_kept part way n (moved part.play k.at n) longer (c.in_ok-longer.ensures k.at k.leads)
          mid c.add_longer.new.next.items c.in_ok-any.ensures.ways
          (c.loop-task.invariant.kept kept);
      none = λ m leads.
          c.in_ok-any.ensures.any
          ∙ rests_more part way n m longer (c.in_ok-longer.ensures m leads) c.loop-task.any
          (c.loop-task.invariant.none m leads);
    }

pub returns : goal.returns
returns c =
    let part = c.args.part.now in
    let way = c.args.way.now in
    let end : c.loop-task.task ≡ length part.play.programs =
    omega (arith, c.tasks-task-end.ensures, c.loop-task-test.false, c.loop-task.auto.task-end) in
    λ m leads. record {
      spreads = λ kept.
          subst (λ (j : ℕ). Spreads (moved part.play) (IsAlike part.play) (begun part) m way.counted
          (numbers j) (counted_ways c.args.next.now.items)
          (counted_ways c.loop-task.next.items)) end (c.loop-task.invariant.spreads m leads kept);
      kept = c.loop-task.invariant.kept;
      none = c.loop-task.invariant.none m leads
          ∙ ap (λ j. not (rests (moved part.play) (numbers j) m)) end;
    }
