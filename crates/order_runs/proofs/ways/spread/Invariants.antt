-- the ways on by the tasks so far
use Rattle.std.proofs.Common.{◌≡◌, not, All, Some}
use Rattle.order_outcomes.specs.alike.Alike.{IsAlike}
use Rattle.order_outcomes.specs.Orders.{moved}
use Rattle.order_outcomes.specs.counts.Layers.{Spreads}
use Rattle.order_outcomes.specs.counts.Orders.{rests}
use Rattle.order_outcomes.specs.reports.model.Rounds.{numbers}
use Rattle.order_outcomes.specs.reports.model.Turns.{Moment}
use Rattle.order_runs.specs.Steps.{IsWayOf, begun, counted_ways, led_on}
use Rattle.order_runs.proofs.ways.spread.Given as goal

abbrev pub invariant-loop-task : goal.invariant-loop-task
invariant-loop-task l = record {
  spreads : (m : Moment) → led_on l.part l.way.counted.order ≡ Some m
      → All (IsWayOf l.part) l.fn.next.items
      → Spreads (moved l.part.play) (IsAlike l.part.play) (begun l.part) m l.way.counted
      (numbers l.task)
      (counted_ways l.fn.next.items) (counted_ways l.next.items);
  kept : All (IsWayOf l.part) l.fn.next.items → All (IsWayOf l.part) l.next.items;
  none : (m : Moment) → led_on l.part l.way.counted.order ≡ Some m
      → l.any ≡ not (rests (moved l.part.play) (numbers l.task) m);
}
