-- the place is still to be found
use Rattle.std.proofs.Common.{◌≡◌, ◌≤◌, length}
use Rattle.order_outcomes.specs.Sets.{place_for}
use Rattle.order_outcomes.proofs.Placing.{place_from}
use Rattle.order_outcomes.proofs.sets.place_for.Given as goal

abbrev pub invariant-loop-place : goal.invariant-loop-place
invariant-loop-place l = record {
  found : place_from l.place l.text l.texts ≡ place_for l.text l.texts;
  within : l.place ≤ length l.texts;
}
