-- the sum so far, which isn't too large
use Rattle.std.proofs.Common.{◌≡◌, ◌*◌, ◌^◌, ◌≤◌, take}
use Rattle.order_outcomes.specs.Made.{replies_in}
use Rattle.order_outcomes.proofs.made.replies_in.Given as goal

abbrev pub invariant-loop-k : goal.invariant-loop-k
invariant-loop-k l = record {
  sum : l.replies ≡ replies_in (take l.k l.tasks);
  few : l.replies ≤ l.k * 2 ^ 64;
}
