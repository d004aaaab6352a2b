-- the sum so far, which isn't too large
use Rattle.std.proofs.Common.{◌≡◌, ◌*◌, ◌^◌, ◌≤◌, take}
use Rattle.order_outcomes.specs.Made.{events_in}
use Rattle.order_outcomes.proofs.made.events_in.Given as goal

abbrev pub invariant-loop-k : goal.invariant-loop-k
invariant-loop-k l = record {
  sum : l.events ≡ events_in (take l.k l.inodes);
  few : l.events ≤ l.k * 2 ^ 64;
}
