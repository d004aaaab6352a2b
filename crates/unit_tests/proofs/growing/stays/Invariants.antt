use Rattle.std.proofs.Common.{◌≡◌, ◌≤◌, All}
use Rattle.unit_tests.proofs.growing.stays.Given as goal

abbrev pub invariant-loop-other : goal.invariant-loop-other
invariant-loop-other g l = record {
  name : l.grow.name ≡ l.initial.grow.name;
  room : l.other-iterator.rest.len ≤ l.grow.spare;
  theirs : All (λ t. t.0.name ≡ l.initial.grow.name) l.other-iterator.rest.items;
}
